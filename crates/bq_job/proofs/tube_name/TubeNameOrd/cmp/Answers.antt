use Rattle.std.proofs.Common.{◌∙◌, arith, take}
use Rattle.std.proofs.lemmas.List.{length-take}
use Rattle.bq_job.proofs.NameWords.{wholes_compare, words_decide}
use Rattle.bq_job.proofs.tube_name.TubeNameOrd.cmp.Goals as goal

pub returns : goal.returns
returns c =
    let a = take c.self.inside.len c.self.inside.bytes in
    let b = take c.other.inside.len c.other.inside.bytes in
    let is =
    words_decide c.self.inside.bytes c.other.inside.bytes (omega (arith, c.self.told))
    (omega (arith, c.other.told)) c.word_of-word.ensures.bytes c.word_of-other_word.ensures.bytes
    c.word_of-word.result c.word_of-other_word.result c.cmp.result c.word_of-word.ensures.word c.word_of-other_word.ensures.word
    c.if-word-other_word.false c.cmp.ensures
    ∙ wholes_compare a b c.self.inside.bytes c.other.inside.bytes c.self.invariant.2 c.other.invariant.2
    c.self.invariant.1 c.other.invariant.1
    (omega (arith, c.self.invariant.0, length-take c.self.inside.len c.self.inside.bytes))
    (omega (arith, c.other.invariant.0, length-take c.other.inside.len c.other.inside.bytes)) in
    grind arith
