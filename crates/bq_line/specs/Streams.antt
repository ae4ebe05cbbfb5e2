-- The state of a stream in both directions, what a connection over it moved, and why it may have
-- failed.
use Rattle.std.specs.Prelude.{ℕ, ◌≡◌, ◌<◌, Bool, false, true, List, length, Option, None, Result, Ok, Err, IfSome}
use Rattle.std.proofs.Common.{◌∙◌, sym, true≢false}
use Rattle.std.specs.Io.{ReadsAtMost, WritesAtMost}
use Rattle.std.specs.Io.KnownBytes.{Appends, Consumes, Keeps, ReadConsumes, WriteAppends, prepend_known}
use Rattle.bq_job.specs.promise.LineSteps.{LineSeen}
use Rattle.bq_line.specs.declared.line.stream_error.StreamError.{StreamError}
use Rattle.bq_line.specs.declared.line.stream_error.StreamError.TheVariants as errors

-- the bytes that are left to read, and those that were written, if they are known, and whether a
-- call may fail
pub record StreamSeen : Type 0 where
  pub left : Option (List ℕ)
  pub held : Option (List ℕ)
  pub may_fail : Bool

-- the same, by what the trait of the stream means
abbrev pub stream_seen : {S : Type 0} → (S → Option (List ℕ)) → (S → Option (List ℕ)) → (S → Bool) → S → StreamSeen
stream_seen remaining contents may_fail stream = record { left = remaining stream; held = contents stream; may_fail = may_fail stream }

-- with these bytes before those that the stream has left
abbrev pub behind : List ℕ → StreamSeen → StreamSeen
behind came stream = record { left = prepend_known came stream.left; held = stream.held; may_fail = stream.may_fail }

-- A stream that may fail is none that may not.
pub not_both : {A : Type 0} (may_fail : Bool) → may_fail ≡ true → may_fail ≡ false → A
not_both may_fail is never = absurd (true≢false (sym is ∙ never))

-- An error is a fault only if the stream may fail.
abbrev pub HasCause : Bool → StreamError → Type 0
HasCause may_fail errors.NotYet = Unit {0}
HasCause may_fail errors.Interrupted = Unit {0}
HasCause may_fail errors.Fault = may_fail ≡ true

-- A call fails only if the stream may fail.
abbrev pub FailsIf : {A : Type 0} → Bool → Result A StreamError → Type 0
FailsIf may_fail (Ok done) = Unit {0}
FailsIf may_fail (Err e) = HasCause may_fail e

-- The same for a write that begins with these bytes. One that takes none of some bytes has failed.
abbrev pub FailsToWriteIf : Bool → Result ℕ StreamError → List ℕ → Type 0
FailsToWriteIf may_fail (Ok n) buf = n ≡ 0 → 0 < length buf → may_fail ≡ true
FailsToWriteIf may_fail (Err e) buf = HasCause may_fail e

-- A read put the next bytes that the stream had left into `buf`, at most as many as fit. A read of no
-- bytes, into a buffer with room, means that none were left. An error leaves them as they were, and is a
-- fault only if the stream may fail. What was written is unchanged.
abbrev pub ReadsFrom : StreamSeen → Result ℕ StreamError → List ℕ → StreamSeen → Type 0
ReadsFrom old result buf new =
    ReadsAtMost result buf × ReadConsumes old.left new.left result buf × Keeps old.held new.held × FailsIf old.may_fail result
    × (new.may_fail ≡ old.may_fail)

-- A write took bytes from the front of `all`, which begins with `first`, and the stream holds them after
-- what it held. An error leaves what it held as it was. The write fails only if the stream may fail. What
-- is left to read is unchanged.
abbrev pub WritesTo : StreamSeen → Result ℕ StreamError → List ℕ → List ℕ → StreamSeen → Type 0
WritesTo old result first all new =
    WritesAtMost result all × WriteAppends old.held new.held result all × Keeps old.left new.left × FailsToWriteIf old.may_fail result first
    × (new.may_fail ≡ old.may_fail)

-- No byte was read from the stream, and none was written to it.
abbrev pub MovesNothing : StreamSeen → StreamSeen → Type 0
MovesNothing old new = Keeps old.left new.left × Keeps old.held new.held × (new.may_fail ≡ old.may_fail)

-- Whether its calls wait is as before.
abbrev pub KeepsWaits : {S : Type 0} → (Bool → S → Bool) → S → S → Type 0
KeepsWaits is_nonblocking old new = (nonblocking : Bool) → is_nonblocking nonblocking new ≡ is_nonblocking nonblocking old

-- The connection is over a stream that had the state `first` before the connection was made, and
-- has `last` now. The connection read the bytes that the stream returned since then, and it wrote
-- the bytes that the stream took. Its input has ended only if it read everything that the stream
-- had left at first. A connection over a stream that may not fail has met no fault.
pub record LiesOver (first : StreamSeen) (line : LineSeen) (last : StreamSeen) : Type 0 where
  pub read : Consumes first.left last.left line.read
  pub written : Appends first.held last.held line.written
  pub ended : line.ended ≡ true → IfSome first.left (λ all. all ≡ line.read)
  pub may_fail : last.may_fail ≡ first.may_fail
  pub fault : first.may_fail ≡ false → line.fault ≡ None

-- The connection is over a stream that may not fail.
abbrev pub IsSureLine : {L : Type 0} → (StreamSeen → L → Type 0) → L → Type 0
IsSureLine lies_over line = (first : StreamSeen) × lies_over first line × (first.may_fail ≡ false)

-- The connection is still over the stream that it was over before.
abbrev pub StaysOver : {L : Type 0} → (StreamSeen → L → Type 0) → L → L → Type 0
StaysOver {L} lies_over old new = (first : StreamSeen) → lies_over first old → lies_over first new
