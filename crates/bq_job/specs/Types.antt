-- The types of the code that the definitions refer to.
pub use Rattle.bq_job.specs.declared.answer.Answer.{Answer}
pub use Rattle.bq_job.specs.declared.job.Job.{Job}
pub use Rattle.bq_job.specs.declared.job.JobState.{JobState}
pub use Rattle.bq_job.specs.declared.job.Counts.{Counts}
pub use Rattle.bq_job.specs.declared.journal.Entry.{Entry as JournalEntry}
pub use Rattle.bq_job.specs.declared.line_end.LineEnd.{LineEnd}
pub use Rattle.bq_job.specs.declared.line_end.LineFault.{LineFault}
pub use Rattle.bq_job.specs.declared.refusal.Refusal.{Refusal}
pub use Rattle.bq_job.specs.declared.request.Request.{Request}
pub use Rattle.bq_job.specs.declared.settings.Settings.{Settings}
pub use Rattle.bq_job.specs.declared.step.Step.{Step}
