-- A journal of steps.
use Rattle.std.specs.Prelude.{ℕ, Bool, false, ◌&&◌, ◌++◌, ◌∷◌, [], not, List}
use Rattle.bq_job.specs.declared.journal.Entry.{Entry}

-- the entries of a journal, how many it has room for in all, and whether it is complete
pub record JournalState : Type 0 where
  pub entries : List Entry
  pub capacity : ℕ
  pub whole : Bool

-- the journal with one more entry; `unshared` tells whether a body could not be shared in the step
abbrev pub with_entry : Entry → Bool → JournalState → JournalState
with_entry entry unshared old = record old { entries = old.entries ++ entry ∷ []; whole = old.whole && not unshared }

-- the journal after a step without an entry
abbrev pub without_entry : JournalState → JournalState
without_entry old = record old { whole = false }
