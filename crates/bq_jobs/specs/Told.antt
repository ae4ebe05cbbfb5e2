-- A record with the name of its tube.
use Rattle.std.specs.Prelude.{◌≡◌, List, [], is_some, true, unwrap_or, ℕ, Option, Some, None, Result, Ok, Err}
use Rattle.bq_jobs.specs.declared.numbered_jobs.JobMove.{JobMove}
use Rattle.bq_jobs.specs.declared.numbered_jobs.NumberedMove.{NumberedMove}
use Rattle.bq_jobs.specs.declared.numbered_jobs.JobRemoval.{JobRemoval}
use Rattle.bq_jobs.specs.declared.numbered_jobs.PriAndState.{PriAndState}
use Rattle.bq_jobs.specs.Names.{number_in}
use Rattle.bq_jobs.specs.Numbering.{Numbering, name_of}

-- the number of its tube, and the report about its removal
abbrev pub removed_told : Numbering → List ℕ × PriAndState → List ℕ × JobRemoval
removed_told k r = (r.0, record { tube = unwrap_or (name_of (number_in r.0) k) []; at = r.1 })

-- the number of its tube, and the report about its change
abbrev pub moved_told : Numbering → NumberedMove → List ℕ × JobMove
moved_told k m = (m.tube, record { tube = unwrap_or (name_of (number_in m.tube) k) []; from = m.from; to = m.to })

-- the same for a change that may not have been made, with the body
abbrev pub shared_told : {E : Type 0} → Numbering → Option (Result (NumberedMove × List ℕ) E)
    → Option (Result ((List ℕ × JobMove) × List ℕ) E)
shared_told k None = None
shared_told k (Some (Err e)) = Some (Err e)
shared_told k (Some (Ok s)) = Some (Ok (moved_told k s.0, s.1))

-- The number in the report about a change that was made has a name.
abbrev pub IsNamedIf : {E : Type 0} → Numbering → Option (Result (NumberedMove × List ℕ) E) → Type 0
IsNamedIf k (Some (Ok s)) = is_some (name_of (number_in s.0.tube) k) ≡ true
IsNamedIf k _ = Unit {0}
