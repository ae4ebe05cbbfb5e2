-- The lines are those of the definition, for a model with these numbers.
use Rattle.std.proofs.{Common.◌∙◌, lemmas.Result.IfOk-weaker}
use Rattle.bq_core.proofs.texts.statistics.tube_text.Goals as goal

pub returns : goal.returns
returns c = IfOk-weaker c.text_of.result _ _ (λ text is m are. is
    ∙ rw (c.number.ensures, c.number-2.ensures, c.number-3.ensures, c.number-4.ensures, c.number-5.ensures, c.number-6.ensures)
    (rw (c.number-7.ensures, c.number-8.ensures, c.number-9.ensures, c.number-10.ensures, c.number-11.ensures, c.number-12.ensures)
    (rw (c.number-13.ensures, c.word.ensures, c.as_slice.ensures.bytes, c.pause_time_left.ensures, c.pause_seconds.ensures, are.jobs)
    (rw (are.puts, are.using, are.watching, are.waiting, are.deletes, are.pauses, are.pause, are.moment))))) c.text_of.ensures
