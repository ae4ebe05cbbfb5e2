-- What is known of a stream that never waits, and why.
use Rattle.std.specs.Prelude.{ℕ, ◌≡◌, ◌&&◌, ◌||◌, Bool, true, not, nat_lt, Option, Some, None, Result, Ok, Err}
use Rattle.bq_line.specs.LineCalls.{found_nothing}
use Rattle.bq_line.specs.declared.line.Readiness.{Readiness}
use Rattle.bq_line.specs.declared.line.stream_error.StreamError.{StreamError}

-- False if a read would only report that there are no bytes yet. A stream that is not watched may
-- always give bytes.
abbrev pub may_give : Option Readiness → Bool
may_give None = true
may_give (Some ready) = ready.reads

-- False if a write would only report that there is no room yet.
abbrev pub may_take : Option Readiness → Bool
may_take None = true
may_take (Some ready) = ready.writes

-- What is known after a further report. Once the end of the input or urgent data is reported, a read
-- is worth a call.
abbrev pub both : Readiness → Readiness → Readiness
both known more = record {
  reads = (known.reads || more.reads) || more.is_closing;
  writes = known.writes || more.writes;
  is_closing = known.is_closing || more.is_closing;
}

-- A read into a buffer of this size found all bytes that there were: none, or fewer than there was
-- room for. If the end of the input or urgent data was reported, more may be left all the same.
abbrev pub found_all : Bool → Result ℕ StreamError → ℕ → Bool
found_all is_closing (Ok count) room = nat_lt count room && not is_closing
found_all is_closing (Err e) room = found_nothing (Err e)

-- What the system reports is as before: when a read would return something, for each answer to
-- whether the end of the input or urgent data was reported; and when a write has room.
abbrev pub KeepsReports : {S : Type 0} → (Bool → S → Bool) → (S → Bool) → S → S → Type 0
KeepsReports reports_bytes reports_room old new =
    ((is_closing : Bool) → reports_bytes is_closing old ≡ true → reports_bytes is_closing new ≡ true)
    × (reports_room old ≡ true → reports_room new ≡ true)

-- A read that found all bytes is followed by a report when there are more.
abbrev pub ReportsAfterRead : {S : Type 0} → (Bool → S → Bool) → (S → Bool) → S → Result ℕ StreamError → ℕ → S → Type 0
ReportsAfterRead reports_bytes reports_room old result room new =
    ((is_closing : Bool) → found_all is_closing result room ≡ true → reports_bytes is_closing new ≡ true)
    × (reports_room old ≡ true → reports_room new ≡ true)

-- A write that found no room is followed by a report when there is some.
abbrev pub ReportsAfterWrite : {S : Type 0} → (Bool → S → Bool) → (S → Bool) → S → Result ℕ StreamError → S → Type 0
ReportsAfterWrite reports_bytes reports_room old result new =
    ((is_closing : Bool) → reports_bytes is_closing old ≡ true → reports_bytes is_closing new ≡ true)
    × (found_nothing result ≡ true → reports_room new ≡ true)
