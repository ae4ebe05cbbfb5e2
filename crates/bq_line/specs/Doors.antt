-- What a door does with its connections.
use Rattle.std.specs.Prelude.{◌≡◌, Bool, true, false, Option, Some, None, Result, Ok, Err}
use Rattle.bq_job.specs.promise.LineSteps.{LineSeen}
use Rattle.bq_line.specs.LineCalls.{new_line}
use Rattle.bq_line.specs.declared.door.Opening.{Opening}
use Rattle.bq_line.specs.declared.door.Opening.TheVariants as openings

-- No connection is open, and more may come.
abbrev pub MayOpen : Bool → Bool → Type 0
MayOpen is_out is_at_end = (is_out ≡ false) × (is_at_end ≡ false)

-- An unused connection was opened, or the door has ended.
abbrev pub IsOpened : {L E : Type 0} → (L → LineSeen) → Bool → Bool → Result (Option L) E → Type 0
IsOpened seen is_out is_at_end (Ok (Some line)) = (is_out ≡ true) × (is_at_end ≡ false) × (seen line ≡ new_line)
IsOpened seen is_out is_at_end (Ok None) = (is_out ≡ false) × (is_at_end ≡ true)
IsOpened seen is_out is_at_end (Err e) = (is_out ≡ false) × (is_at_end ≡ true)

-- The same without waiting, where possibly no client has connected yet.
abbrev pub IsTryOpened : {L E : Type 0} → (L → LineSeen) → Bool → Bool → Result (Opening L) E → Type 0
IsTryOpened seen is_out is_at_end (Ok (openings.Line line)) = (is_out ≡ true) × (is_at_end ≡ false) × (seen line ≡ new_line)
IsTryOpened seen is_out is_at_end (Ok openings.NotYet) = (is_out ≡ false) × (is_at_end ≡ false)
IsTryOpened seen is_out is_at_end (Ok openings.Later) = (is_out ≡ false) × (is_at_end ≡ false)
IsTryOpened seen is_out is_at_end (Ok openings.NoMore) = (is_out ≡ false) × (is_at_end ≡ true)
IsTryOpened seen is_out is_at_end (Err e) = (is_out ≡ false) × (is_at_end ≡ true)

-- If a connection was opened, this holds of it.
abbrev pub IfOpened : {L E : Type 0} → Result (Option L) E → (L → Type 0) → Type 0
IfOpened (Ok (Some line)) P = P line
IfOpened (Ok None) P = Unit {0}
IfOpened (Err e) P = Unit {0}

-- The same without waiting.
abbrev pub IfLine : {L E : Type 0} → Result (Opening L) E → (L → Type 0) → Type 0
IfLine (Ok (openings.Line line)) P = P line
IfLine (Ok openings.NotYet) P = Unit {0}
IfLine (Ok openings.Later) P = Unit {0}
IfLine (Ok openings.NoMore) P = Unit {0}
IfLine (Err e) P = Unit {0}

-- No connection was opened, and no fault was met.
abbrev pub IsNoneFound : {L E : Type 0} → Result (Opening L) E → Type 0
IsNoneFound (Ok (openings.Line line)) = ⊥
IsNoneFound (Ok openings.NotYet) = Unit {0}
IsNoneFound (Ok openings.Later) = Unit {0}
IsNoneFound (Ok openings.NoMore) = Unit {0}
IsNoneFound (Err e) = ⊥

-- No more connections come.
abbrev pub IsNoMore : {L : Type 0} → Opening L → Type 0
IsNoMore openings.NoMore = Unit {0}
IsNoMore _ = ⊥
