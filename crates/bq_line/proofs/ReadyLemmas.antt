-- A watched stream stays watched.
use Rattle.std.proofs.Common.{◌≡◌, ℕ, true, not, Option, Some, Result, arith}
use Rattle.bq_line.specs.LineCalls.{found_nothing}
use Rattle.bq_line.specs.Ready.{ReportsAfterRead, ReportsAfterWrite, found_all}
use Rattle.bq_line.specs.Streams.{KeepsWaits}
use Rattle.bq_line.specs.Watched.{StaysWatched}
use Rattle.bq_line.specs.declared.line.Readiness.{Readiness}
use Rattle.bq_line.specs.declared.line.socket.Socket.{Ghosts as Socket}
use Rattle.bq_line.specs.declared.line.stream_error.StreamError.{StreamError}

-- It was left alone.
pub stays_same : {S : Type 0} (s : Socket S) (ready : Option Readiness) (stream : S) → StaysWatched s ready stream ready stream
stays_same s ready stream = grind arith

-- It was read.
pub read_stays : {S : Type 0} (s : Socket S) (known after : Readiness) (old new : S) (came : Result ℕ StreamError) (room : ℕ)
    → KeepsWaits s.is_nonblocking old new → ReportsAfterRead s.reports_bytes s.reports_room old came room new
    → after.reads ≡ not (found_all known.is_closing came room) → after ≡ record known { reads = after.reads }
    → StaysWatched s (Some known) old (Some after) new
read_stays s known after old new came room waits reports reads rest = grind arith

-- It was written.
pub write_stays : {S : Type 0} (s : Socket S) (known after : Readiness) (old new : S) (took : Result ℕ StreamError)
    → KeepsWaits s.is_nonblocking old new → ReportsAfterWrite s.reports_bytes s.reports_room old took new
    → after.writes ≡ not (found_nothing took) → after ≡ record known { writes = after.writes }
    → StaysWatched s (Some known) old (Some after) new
write_stays s known after old new took waits reports writes rest = grind arith

-- It was written, and had room, so that nothing was noted.
pub room_stays : {S : Type 0} (s : Socket S) (was : Option Readiness) (known : Readiness) (old new : S) (took : Result ℕ StreamError)
    → was ≡ Some known → known.writes ≡ true → KeepsWaits s.is_nonblocking old new
    → ReportsAfterWrite s.reports_bytes s.reports_room old took new → StaysWatched s was old was new
room_stays s was known old new took is writes waits reports = grind arith
