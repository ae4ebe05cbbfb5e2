-- The first unit of a text, and units that begin texts.
use Rattle.std.proofs.Common.{◌≡◌, ◌∙◌, ℕ, ◌<◌, List, [], ◌∷◌, ◌++◌, Option, Some, None}
use Rattle.std.proofs.Common.{◌⊎◌, inl, refl, sym, ap, arith, length, MatchOption, length-append, append_assoc}
use Rattle.std.proofs.lemmas.{Bool.Decides.nat_tests, Grind.common_steps}
use Rattle.bq_job.specs.beside.{IsRefusedMemory, first_unit, put_request, unit_after, unit_of_line}
use Rattle.bq_job.specs.{declared.request.Request.Request, reading.{Line.first_line, LineRead.{LineRead, PutLine}}}
use Rattle.bq_job.specs.reading.{LineRead.{PutWaits, Whole, read_line}, Reading.{BeginsNoUnit, IsPutRequest, IsUnit}}
use Rattle.bq_job.specs.reading.Reading.{IsUnitAfter}
use Rattle.bq_job.proofs.LineLemmas.{first_line-append, first_line_is, first_line_again}

-- the request of a unit is the computed one, or its allocation failed
abbrev pub IsComputed : Request → Request → Type 0
IsComputed r q = (r ≡ q) ⊎ IsRefusedMemory r q

-- two equal `Some` have equal contents
pub some_pair : {A B : Type 0} (x y : A × B) → Some x ≡ Some y → (x.0 ≡ y.0) × (x.1 ≡ y.1)
some_pair x y e = let h : x ≡ y = cc in (ap (λ z. z.0) h, ap (λ z. z.1) h)

put_request-computed : (size : ℕ) (put : PutLine) (bytes : List ℕ) (r : Request) → IsPutRequest size put bytes r
    → IsComputed r (put_request size put bytes)
put_request-computed size put bytes r h = grind (arith, common_steps)

pub unit_after-append : (size : ℕ) (read : LineRead) (after more : List ℕ) (r : Request) → IsUnitAfter size read after r
    → (q : Request) × (unit_after size read (after ++ more) ≡ Some (q, more)) × IsComputed r q
unit_after-append size (Whole request) after more r h = (request, (rw h.0 refl), inl h.1)
unit_after-append size (PutWaits put) after more r h = grind (arith, common_steps, nat_tests, put_request-computed)

pub unit_after-unit : (size : ℕ) (read : LineRead) (after rest : List ℕ) (r : Request) → unit_after size read after ≡ Some (r, rest)
    → (taken : List ℕ) × (after ≡ taken ++ rest) × IsUnitAfter size read taken r
unit_after-unit size (Whole request) after rest r e = let same = some_pair (request, after) (r, rest) e in ([], same.1, (refl, sym same.0))
unit_after-unit size (PutWaits put) after rest r e = grind (arith, common_steps, some_pair, nat_tests)

-- a text that begins with a unit has it as its first unit
pub first_unit-append : (size : ℕ) (first more : List ℕ) (r : Request) → IsUnit size first r
    → (q : Request) × (first_unit size (first ++ more) ≡ Some (q, more)) × IsComputed r q
first_unit-append size first more r h = go (first_line first) refl h
  where
    go : (o : Option (List ℕ × List ℕ)) → first_line first ≡ o → MatchOption o ⊥ (λ l. IsUnitAfter size (read_line l.0) l.1 r)
        → (q : Request) × (first_unit size (first ++ more) ≡ Some (q, more)) × IsComputed r q
    go None e h = absurd h
    go (Some l) e h = rw (first_line-append first more l e) (unit_after-append size (read_line l.0) l.1 more r h)

-- the first unit of a text is a unit, and not empty
pub first_unit-unit : (size : ℕ) (text rest : List ℕ) (r : Request) → first_unit size text ≡ Some (r, rest)
    → (first : List ℕ) × (text ≡ first ++ rest) × IsUnit size first r × (0 < length first)
first_unit-unit size text rest r e = go (first_line text) refl e
  where
    go : (o : Option (List ℕ × List ℕ)) → first_line text ≡ o → unit_of_line size o ≡ Some (r, rest)
        → (first : List ℕ) × (text ≡ first ++ rest) × IsUnit size first r × (0 < length first)
    go None is e = cc
    go (Some l) is e =
        let u = unit_after-unit size (read_line l.0) l.1 rest r e in
        let whole : text ≡ (l.0 ++ 13 ∷ 10 ∷ u.0) ++ rest =
        first_line_is text l is ∙ ap (λ (xs : List ℕ). l.0 ++ 13 ∷ 10 ∷ xs) u.1 ∙ sym (append_assoc l.0 (13 ∷ 10 ∷ u.0) rest) in
        let some : 0 < length (l.0 ++ 13 ∷ 10 ∷ u.0) = rw length-append (grind (arith, common_steps)) in
        (l.0 ++ 13 ∷ 10 ∷ u.0, whole, rw (first_line_again text u.0 l is) u.2, some)

pub no_first_unit : (size : ℕ) (text : List ℕ) → first_unit size text ≡ None → BeginsNoUnit size text
no_first_unit size text e first more r is unit = grind (arith, common_steps, first_unit-append size first more r unit)
