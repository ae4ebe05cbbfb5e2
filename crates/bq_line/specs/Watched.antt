-- A stream that is watched, so that it never waits.
use Rattle.std.specs.Prelude.{◌≡◌, true, false, Option, Some, None}
use Rattle.bq_line.specs.Streams.{KeepsWaits}
use Rattle.bq_line.specs.declared.line.Readiness.{Readiness}
use Rattle.bq_line.specs.declared.line.socket.Socket.{Ghosts as Socket}

-- Whatever is marked as not worth a call will be reported by the system once it is.
abbrev pub AreMarksSure : {S : Type 0} → Socket S → Readiness → S → Type 0
AreMarksSure s ready stream =
    (ready.reads ≡ false → s.reports_bytes ready.is_closing stream ≡ true) × (ready.writes ≡ false → s.reports_room stream ≡ true)

-- A stream is watched: it was set not to wait, and nothing is missed that the marks leave out.
abbrev pub IsWatched : {S : Type 0} → Socket S → Option Readiness → S → Type 0
IsWatched s None stream = ⊥
IsWatched s (Some ready) stream = (s.is_nonblocking true stream ≡ true) × AreMarksSure s ready stream

-- A stream that is watched stays watched, and whether its calls wait is as before. That the end of
-- its input or urgent data was reported is not forgotten.
abbrev pub StaysWatched : {S : Type 0} → Socket S → Option Readiness → S → Option Readiness → S → Type 0
StaysWatched s None old now new = Unit {0}
StaysWatched s (Some known) old None new = ⊥
StaysWatched s (Some known) old (Some now) new =
    KeepsWaits s.is_nonblocking old new × (known.is_closing ≡ true → now.is_closing ≡ true)
    × (AreMarksSure s known old → AreMarksSure s now new)
