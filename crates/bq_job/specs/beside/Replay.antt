-- The replay of a journal.
use Rattle.std.specs.Prelude.{false, List, map}
use Rattle.bq_job.specs.{declared.journal.Entry.Entry as JournalEntry, machine.{GivenAnswer, Outcome, Settings}}
use Rattle.bq_job.specs.{machine.{new_machine, Machine.Machine}, promise.{Entry, RunBy}}

-- the step of a history that a journal entry records
abbrev pub entry_of : JournalEntry → Entry
entry_of e = record { moment = e.moment; seat = e.seat; what = e.step }

-- the outcome that the entry records: each body could be shared
abbrev pub outcome_of : JournalEntry → Outcome
outcome_of e = record { left_out = e.left_out; unshared = false }

-- The steps of the journal, taken one after another from a new model with the outcomes that their
-- entries record, give these answers and lead to this model.
abbrev pub Replay : Settings → List JournalEntry → List GivenAnswer → Machine → Type 0
Replay settings journal given last = RunBy (new_machine settings) (map entry_of journal) (map outcome_of journal) given last
