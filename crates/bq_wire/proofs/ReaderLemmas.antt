-- What a reader represents as bytes arrive.
use Rattle.std.proofs.Common.{◌≡◌, ◌<◌, ◌≤◌, ℕ, ◌+◌, ◌-◌, Bool, false, List, ◌++◌, Option, Some, []}
use Rattle.std.proofs.Common.{None, refl, sym, arith, length, length-append, append_assoc, take, drop, take-add}
use Rattle.std.proofs.Common.{take-append-drop, nat_le}
use Rattle.std.proofs.lemmas.Grind.{common_steps}
use Rattle.std.proofs.lemmas.Bool.{Decides.nat_tests}
use Rattle.std.proofs.lemmas.List.{length-take-le}
use Rattle.bq_job.specs.reading.Line.{first_line}
use Rattle.bq_job.specs.reading.LineRead as line_read
use Rattle.bq_job.specs.reading.LineRead.{longest_line}
use Rattle.bq_job.specs.reading.Reading.{IsUnit, IsPutRequest, BeginsNoUnit, is_quit}
use Rattle.bq_job.specs.declared.request.Request.{Request}
use Rattle.bq_job.proofs.LineLemmas.{first_line-append}
use Rattle.bq_job.proofs.UnitLemmas.{no_first_unit}
use Rattle.bq_wire.specs.Asked.{put_line_of}
use Rattle.bq_wire.specs.LineEnds.{line_end_after, last_is_cr}
use Rattle.bq_wire.specs.PutBodies.{IsBodySoFar, TakesBytes}
use Rattle.bq_wire.specs.Standing.{Stands, StandsAt, IsPutBegun, IsLineAsking, Waits}
use Rattle.bq_wire.specs.declared.line_read.PutLine.{PutLine}
use Rattle.bq_wire.specs.Standing.{HandsRequest, FeedsText, length_beside_cr, but_last, Keeps}
use Rattle.bq_wire.specs.declared.put_body.PutBody.{PutBody}
use Rattle.bq_wire.specs.declared.reader.ReaderPlace.{ReaderPlace}
use Rattle.bq_wire.specs.declared.reader.ReaderPlace.TheVariants.{InLine, InLongLine, InBody}
use Rattle.bq_wire.specs.declared.reader.ReaderState.{ReaderState}
use Rattle.bq_wire.proofs.LineEndLemmas.{goes_on, ends_there, line_end_within, line_end_one, last_is_cr_append}

-- no first part of a text that a reader represents is a unit
pub Stands-no_unit : (s : ReaderState) (place : ReaderPlace) (text : List ℕ) → StandsAt s place text → BeginsNoUnit s.max_job_size text
Stands-no_unit s (InBody body) text stands =
    let short : nat_le (body.put.bytes + 2) (length stands.1.after) ≡ false = grind (arith, nat_tests, stands.1.less) in
    no_first_unit s.max_job_size text (rw (stands.1.first_line_is, stands.1.read_is, short) refl)
Stands-no_unit s place text stands =
    let none : first_line text ≡ None = grind (arith, common_steps) in
    no_first_unit s.max_job_size text (rw none refl)

-- Waits, from what the reader represents
pub waits_by : (s : ReaderState) (text piece : List ℕ) (taken : ℕ) → taken ≡ length piece → Stands s (text ++ piece)
    → Waits s text piece taken
waits_by s text piece taken all stands = record { all = all; none = Stands-no_unit s s.place (text ++ piece) stands; stands = stands }

-- more of a put's body arrived
pub begun_more : (old new : PutBody) (text bytes : List ℕ) → IsPutBegun old text → new.put ≡ old.put → TakesBytes old new bytes
    → new.taken < new.put.bytes + 2
    → IsPutBegun new (text ++ bytes)
begun_more old new text bytes begun put takes less =
    grind (arith, first_line-append text bytes (begun.line, begun.after))

-- all of a put arrived
pub begun_whole : (m : ℕ) (old new : PutBody) (text bytes : List ℕ) (r : Request) → IsPutBegun old text → new.put ≡ old.put
    → TakesBytes old new bytes
    → new.taken ≡ new.put.bytes + 2 → ((after : List ℕ) → IsBodySoFar new after → IsPutRequest m (put_line_of new.put) after r)
    → IsUnit m (text ++ bytes) r × (is_quit r ≡ false)
begun_whole m old new text bytes r begun put takes whole request =
    grind (arith, first_line-append text bytes (begun.line, begun.after) begun.first_line_is, takes begun.after)

-- a command line that is a complete request is a unit
pub line_unit : (m : ℕ) (text : List ℕ) (r : Request) → IsLineAsking (line_read.Whole r) text → IsUnit m text r
line_unit m text r line = grind arith

-- what was fed after the first bytes of a piece
pub feeds_behind : (new : ReaderState) (text piece rest : List ℕ) (end taken : ℕ) (r : Option Request) → end ≤ length piece
    → rest ≡ drop end piece
    → FeedsText new (text ++ take end piece) rest taken r → FeedsText new text piece (end + taken) r
feeds_behind new text piece rest end taken r within is fed =
    grind (arith, append_assoc, take-append-drop, take-add, length-append, length-take-le)

-- a command line that is too long is BAD_FORMAT when it ends
pub long_line_read : (text piece : List ℕ) (e : ℕ) → first_line text ≡ None → longest_line < length_beside_cr text
    → line_end_after (last_is_cr false text) piece ≡ Some e
    → IsLineAsking line_read.bad_format (text ++ take e piece)
long_line_read text piece e none long here =
    let within = line_end_within (last_is_cr false text) piece e here in
    let ends = ends_there text piece e none here in
    grind (arith, common_steps, nat_tests, line_end_one, length-append, length-take-le)

abbrev pub in_line : ℕ → List ℕ → ReaderState
in_line m kept = record { max_job_size = m; kept = kept; place = InLine }

-- a request other than quit is returned at its end, if nothing is kept
pub hands_out : (m : ℕ) (kept text piece : List ℕ) (taken : ℕ) (r : Request) → kept ≡ [] → IsUnit m (text ++ take taken piece) r
    → is_quit r ≡ false → HandsRequest (in_line m kept) text piece taken r
hands_out m kept text piece taken r nothing unit no_quit = record { unit = unit; next = rw no_quit (sym nothing, refl) }

-- what represents a command line that goes on
pub kept_stands : (m : ℕ) (old new : List ℕ) (place : ReaderPlace) (text piece : List ℕ) → text ≡ old → first_line text ≡ None
    → line_end_after (last_is_cr false old) piece ≡ None → Keeps old new place piece
    → StandsAt (record { max_job_size = m; kept = new; place = place }) place (text ++ piece)
kept_stands m old new place text piece h6 h7 h8 h9 = grind (arith, goes_on)

-- the kept bytes and those up to the line's end form the line
pub kept_line : (old text piece : List ℕ) (e : ℕ) (asked : line_read.LineRead) → text ≡ old → first_line text ≡ None
    → line_end_after (last_is_cr false old) piece ≡ Some e → asked ≡ line_read.read_line (but_last (old ++ take (e - 1) piece))
    → IsLineAsking asked (text ++ take e piece)
kept_line old text piece e asked is none here read = grind (arith, common_steps, ends_there, none, read)

-- what represents a command line that is too long and goes on
pub long_stands : (m : ℕ) (kept text piece : List ℕ) (last after_cr : Bool) → kept ≡ [] → first_line text ≡ None
    → last_is_cr false text ≡ after_cr
    → longest_line < length_beside_cr text → line_end_after after_cr piece ≡ None → last ≡ last_is_cr after_cr piece
    → StandsAt (record { max_job_size = m; kept = kept; place = InLongLine last }) (InLongLine last) (text ++ piece)
long_stands m kept text piece last after_cr nothing none cr long more last_is = grind (arith, goes_on, last_is_cr_append, common_steps)

-- a command line that ends has at least one byte before its LF
pub some_byte : (old piece : List ℕ) (e : ℕ) → line_end_after (last_is_cr false old) piece ≡ Some e
    → 0 < length old + length (take (e - 1) piece)
some_byte old piece e h3 = grind (arith, common_steps, line_end_one, line_end_within)

-- ---- bytes that are taken one part after another

-- two parts, the second from what the first left
pub take_two : (bytes : List ℕ) (a b : ℕ) → take (a + b) bytes ≡ take a bytes ++ take b (take (length bytes - a) (drop a bytes))
take_two bytes a b = grind (arith, common_steps, take-add)

-- ---- a put whose body comes with its command line

-- the body and the two bytes after it, as the code splits them
pub two_parts : (piece : List ℕ) (n : ℕ) → take n piece ++ take (n + 2 - n) (drop n piece) ≡ take (n + 2) piece
two_parts piece n = grind (arith, take-add)

-- the request of a put is returned with the end of its body
pub feeds_put : (state : ReaderState) (put : PutLine) (text piece body end : List ℕ) (q : Request)
    → state.kept ≡ [] → state.place ≡ InLine → IsLineAsking (line_read.PutWaits (put_line_of put)) text → put.bytes + 2 ≤ length piece
    → body ++ end ≡ take (put.bytes + 2) piece → put.bytes ≤ state.max_job_size
    → ((size : ℕ) → put.bytes ≤ size → IsPutRequest size (put_line_of put) (body ++ end) q)
    → HandsRequest state text piece (put.bytes + 2) q
feeds_put state put text piece body end q nothing at line within parts low made =
    let is = made state.max_job_size low in
    grind (arith, length-take-le, first_line-append text (take (put.bytes + 2) piece) (line.line, []) line.first_line_is)
