-- What consecutive calls read.
use Rattle.std.proofs.Common.{◌≡◌, ◌<◌, ◌≤◌, ℕ, ◌+◌, false, List, []}
use Rattle.std.proofs.Common.{◌++◌, inl, inr, Option, Some, None, arith, length}
use Rattle.std.proofs.Common.{append_assoc, append-nil, take, drop, get_or, ◌-◌, IsTrue, option_to_list}
use Rattle.std.proofs.lemmas.{Bool.cases_Bool, Grind.common_steps}
use Rattle.std.proofs.Math.Seq.{take-suc}
use Rattle.std.proofs.lemmas.Grind.{flat_map-append}
use Rattle.std.specs.List.{flat_map}
use Rattle.bq_job.specs.reading.Reading.{Reads, ends_by_quit}
use Rattle.bq_job.specs.declared.request.Request.{Request}
use Rattle.bq_job.proofs.UnitsLemmas.{AreUnits-append, ends_by_quit-append, quits_last-append}
use Rattle.bq_wire.specs.HasRead.{HasRead, HasReadText, ReadsOn}
use Rattle.bq_wire.specs.Standing.{Stands, Feeds, FeedsText, Waits}
use Rattle.bq_wire.specs.declared.reader.ReaderPlace.TheVariants.{Over}
use Rattle.bq_wire.specs.declared.reader.ReaderState.{ReaderState}
use Rattle.bq_wire.proofs.ReaderLemmas.{Stands-no_unit}

-- a call whose reader was not over
HasRead-fed : (old new : ReaderState) (piece taken : List ℕ) (count : ℕ) (request : Option Request) (requests : List Request)
    → new.max_job_size ≡ old.max_job_size → (read : HasRead old taken requests) → ends_by_quit requests ≡ false
    → FeedsText new read.rest piece count request → HasRead new (taken ++ take count piece) (requests ++ option_to_list request)
HasRead-fed old new piece taken count None requests same read no_quit waits = grind (arith, common_steps, append-nil)
HasRead-fed old new piece taken count (Some r) requests same read no_quit out = record {
  units = read.units ++ (read.rest ++ take count piece);
  rest = [];
  taken_is = rw (append-nil, read.taken_is) (append_assoc read.units read.rest (take count piece));
  are_units = AreUnits-append new.max_job_size requests read.units (read.rest ++ take count piece) r (rw same read.are_units) out.unit;
  last_quits = quits_last-append requests r read.last_quits no_quit;
  goes_on = let next = out.next in grind (arith, common_steps, cases_Bool, ends_by_quit-append requests r);
}

-- a call
pub reads_on : (old new : ReaderState) (piece : List ℕ) (count : ℕ) (request : Option Request) → new.max_job_size ≡ old.max_job_size
    → Feeds (Stands old) new piece count request → (old.place ≡ Over → (count ≡ 0) × (request ≡ None) × (new ≡ old))
    → ReadsOn old new piece count request
reads_on old new piece count request same feeds over taken requests read = elim read.goes_on [
  | inl h ↦ let o = over h.1 in rw (o.0, o.1, o.2, append-nil taken, append-nil requests) read
  | inr h ↦ HasRead-fed old new piece taken count request requests same read h.0 (feeds read.rest h.1)
]

-- what was read is a reading of the bytes taken
pub HasRead-Reads : (s : ReaderState) (taken : List ℕ) (requests : List Request) (read : HasRead s taken requests)
    → Reads s.max_job_size taken requests read.rest
HasRead-Reads s taken requests read = grind (arith, Stands-no_unit)

pub was_read : (s : ReaderState) (taken : List ℕ) (requests : List Request) → HasRead s taken requests
    → (rest : List ℕ) × Reads s.max_job_size taken requests rest
was_read s taken requests read = (read.rest, HasRead-Reads s taken requests read)

-- any bytes may follow a quit
pub Reads-more : (s : ReaderState) (taken more : List ℕ) (requests : List Request) (read : HasRead s taken requests)
    → IsTrue (ends_by_quit requests)
    → Reads s.max_job_size (taken ++ more) requests (read.rest ++ more)
Reads-more s taken more requests read quit = grind (arith, append_assoc)

-- no request from the rest of a piece
pub read_to_end : (old new : ReaderState) (taken piece : List ℕ) (from count : ℕ) (requests : List Request) (request : Option Request)
    → request ≡ None → from ≤ length piece
    → HasRead old (taken ++ take from piece) requests → ReadsOn old new (take (length piece - from) (drop from piece)) count request
    → ((text : List ℕ) → Stands old text → Waits new text (take (length piece - from) (drop from piece)) count)
    → (old.place ≡ Over → new ≡ old)
    → HasReadText new (taken ++ piece) requests
read_to_end old new taken piece from count requests request none within read reads waits over =
    let rest = take (length piece - from) (drop from piece) in record {
      taken = (taken ++ take from piece) ++ take count rest;
      more = drop count rest;
      text_is = grind (arith, common_steps);
      read = rw (none, append-nil requests) at (reads (taken ++ take from piece) requests read);
      all = grind (arith, common_steps);
    }

-- one more piece of a text
pub read_piece : (old new : ReaderState) (text piece : List ℕ) (before after : List Request)
    → HasReadText old text before → ((taken : List ℕ) → HasRead old taken before → HasReadText new (taken ++ piece) after)
    → (old.place ≡ Over → (new ≡ old) × (after ≡ before)) → HasReadText new (text ++ piece) after
read_piece old new text piece before after was reads over =
    let whole = reads was.taken was.read in
    elim was.all [
      | inl e ↦ grind (arith, common_steps, append-nil)
      | inr e ↦ let h = over e in grind (arith, append_assoc was.taken was.more piece)
    ]

-- the text that was offered has been read
pub read_of : (m : ℕ) (s : ReaderState) (text : List ℕ) (requests : List Request) → s.max_job_size ≡ m → HasReadText s text requests
    → (rest : List ℕ) × Reads m text requests rest
read_of m s text requests e read =
    let reads = HasRead-Reads s read.taken requests read.read in
    grind (arith, common_steps, append-nil, Reads-more s read.taken read.more requests read.read)

-- the pieces so far, and one more
pub flat_map_more : {X : Type 0} (f : X → List ℕ) (xs : List X) (i : ℕ) (x : X) → i < length xs → x ≡ get_or xs i x
    → flat_map f (take (i + 1) xs) ≡ flat_map f (take i xs) ++ f x
flat_map_more f xs i x low is = grind (arith, common_steps, take-suc, flat_map-append, append-nil)
