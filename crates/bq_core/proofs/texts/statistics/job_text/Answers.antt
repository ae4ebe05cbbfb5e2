-- The lines are those of the definition, for a model at this moment.
use Rattle.std.proofs.{Common.◌∙◌, lemmas.Result.IfOk-weaker}
use Rattle.bq_core.proofs.texts.statistics.job_text.Goals as goal

pub returns : goal.returns
returns c = IfOk-weaker c.text_of.result _ _ (λ text is m at. is
    ∙ rw (c.number.ensures, c.number-2.ensures, c.number-3.ensures, c.number-4.ensures, c.number-5.ensures, c.number-6.ensures)
    (rw (c.number-7.ensures, c.number-8.ensures, c.number-9.ensures, c.number-10.ensures, c.number-11.ensures, c.word.ensures)
    (rw (c.requires.id, c.as_slice.ensures.bytes, c.word-2.ensures, c.state_word.ensures, c.state.ensures, c.from.ensures)
    (rw (c.seconds_between.ensures, c.from-2.ensures, c.from-3.ensures, c.ttr.ensures, c.time_left.ensures, c.state-2.ensures)
    (rw (← c.job.view_is, at)))))) c.text_of.ensures
