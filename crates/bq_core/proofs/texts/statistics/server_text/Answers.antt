-- The lines are those of the definition, for a model with these numbers.
use Rattle.std.proofs.{Common.◌∙◌, lemmas.Result.IfOk-weaker}
use Rattle.bq_core.proofs.texts.statistics.server_text.Goals as goal

pub returns : goal.returns
returns c = IfOk-weaker c.text_of.result _ _ (λ text is m are. is
    ∙ rw (c.number.ensures, c.number-2.ensures, c.number-3.ensures, c.number-4.ensures, c.number-5.ensures, c.number-6.ensures)
    (rw (c.number-7.ensures, c.number-8.ensures, c.number-9.ensures, c.number-10.ensures, c.number-11.ensures, c.number-12.ensures)
    (rw (c.word.ensures, c.bool_word.ensures, c.from.ensures, are.jobs, are.timeouts, are.puts, are.max_job_size)
    (rw (are.tubes, are.connected, are.waiting, are.connections, are.draining))))) c.text_of.ensures
