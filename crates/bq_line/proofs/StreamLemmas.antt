-- What calls of a stream mean for a connection over it.
use Rattle.std.proofs.Common.{◌≡◌, ◌<◌, ℕ, List, [], ◌∷◌, ◌++◌, Option}
use Rattle.std.proofs.Common.{IfSome, Result, length, refl, append-nil, arith}
use Rattle.std.proofs.KnownBytes.{Appends-kept, Consumes-trans}
use Rattle.std.proofs.lemmas.List.{append_cancel_left}
use Rattle.std.specs.Io.KnownBytes.{Consumes, Keeps}
use Rattle.bq_job.specs.promise.LineSteps.{LineSeen}
use Rattle.bq_line.specs.LineCalls.{after_read}
use Rattle.bq_line.specs.Streams.{LiesOver, ReadsFrom, StreamSeen, behind, stream_seen}
use Rattle.bq_line.specs.declared.line.stream.Duplex.{Ghosts as Duplex}
use Rattle.bq_line.specs.declared.line.stream_error.StreamError.{StreamError}

-- the state of a stream
abbrev pub stream_of : {S : Type 0} → Duplex S → S → StreamSeen
stream_of d = stream_seen d.remaining d.contents d.may_fail

nothing_before : (bytes more : List ℕ) → [] ≡ bytes ++ more → bytes ≡ []
nothing_before [] more none = refl
nothing_before (b ∷ bs) more none = absurd cc

-- A stream that was read completely returns no more.
still_all : (first old new : Option (List ℕ)) (read bytes : List ℕ) → Consumes first old read → Consumes old new bytes
    → IfSome first (λ all. all ≡ read) → IfSome first (λ all. all ≡ read ++ bytes)
still_all first old new read bytes h5 h6 h7 = grind (arith, nothing_before, append_cancel_left read, append-nil read)

-- A connection that read these bytes is over the stream that returned them.
read_on : (first old new : StreamSeen) (line : LineSeen) (result : Result ℕ StreamError) (buf : List ℕ) → 0 < length buf
    → ReadsFrom old result buf new → LiesOver first line old → LiesOver first (after_read result buf line) new
read_on first old new line result buf room gave over = grind (arith, still_all, Consumes-trans)

-- A connection that read these bytes, some of them from its buffer, is over the stream with what is
-- left.
pub read_more : (first old new : StreamSeen) (line : LineSeen) (bytes all : List ℕ) → all ≡ line.read ++ bytes
    → Consumes old.left new.left bytes → Keeps old.held new.held → new.may_fail ≡ old.may_fail → LiesOver first line old
    → LiesOver first (record line { read = all }) new
read_more first old new line bytes all all_is gave apart same over = grind (arith, Consumes-trans, Appends-kept, still_all)

-- what holds of a connection and its stream, under equal names
noted_so : (first gave new : StreamSeen) (noted later : LineSeen) → later ≡ noted → new ≡ gave → LiesOver first noted gave
    → LiesOver first later new
noted_so first gave new noted later is stays over = grind arith

-- The connection recorded the result of a read of its stream.
pub read_noted : (first old gave new : StreamSeen) (line later : LineSeen) (result : Result ℕ StreamError) (buf : List ℕ) (room : ℕ)
    → length buf ≡ room → 0 < room → ReadsFrom old result buf gave → later ≡ after_read result buf line → new ≡ gave
    → LiesOver first line old → LiesOver first later new
read_noted first old gave new line later result buf room length_is some took noted stays over =
    grind (arith, read_on, noted_so first gave new (after_read result buf line) later noted stays)

-- A connection over a stream is over it through a buffer without bytes too.
pub over_buffered : (first stream : StreamSeen) (line : LineSeen) (came : List ℕ) → came ≡ [] → LiesOver first line stream
    → LiesOver first line (behind came stream)
over_buffered first stream line came none over = grind arith
