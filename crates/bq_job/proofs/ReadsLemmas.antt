-- Every text has one reading.
use Rattle.std.proofs.Common.{◌≡◌, ℕ, zero, suc, ◌≤◌, true, false, List, [], ◌∷◌, ◌++◌, Option, Some, None}
use Rattle.std.proofs.Common.{◌⊎◌, inl, inr, refl, ap, arith, length, length-append, append_assoc, IsTrue}
use Rattle.std.proofs.lemmas.{Bool.cases_Bool, Grind.common_steps}
use Rattle.bq_job.specs.reading.Reading.{Reads, AreUnits, IsUnit, BeginsNoUnit, is_quit, quits_last, ends_by_quit}
use Rattle.bq_job.specs.beside.{AreSameRequests, IsSameRequest, first_unit, reading, reading_within}
use Rattle.bq_job.specs.declared.request.Request.{Request}
use Rattle.bq_job.proofs.UnitLemmas.{first_unit-append, first_unit-unit, no_first_unit}

-- a reading of a quit
pub Reads-quit : (size : ℕ) (text unit after : List ℕ) (r : Request) → text ≡ unit ++ after → IsUnit size unit r → is_quit r ≡ true
    → Reads size text (r ∷ []) after
Reads-quit size text unit after r is u q = grind (arith, common_steps)

-- a unit in front of a text that is read
pub Reads-onto : (size : ℕ) (text unit after rest : List ℕ) (r : Request) (requests : List Request)
    → text ≡ unit ++ after → IsUnit size unit r → is_quit r ≡ false → Reads size after requests rest → Reads size text (r ∷ requests) rest
Reads-onto size text unit after rest r requests is u q more = grind (arith, append_assoc unit more.units rest)

-- the first request of a text, and the reading of what comes after it
read_first : (n size : ℕ) (text : List ℕ)
    → ((after : List ℕ) → length after ≤ n → Reads size after (reading_within n size after).0 (reading_within n size after).1)
    → length text ≤ suc n → (o : Option (Request × List ℕ)) → first_unit size text ≡ o
    → Reads size text (reading_within (suc n) size text).0 (reading_within (suc n) size text).1
read_first n size text next short None e = grind (arith, no_first_unit)
read_first n size text next short (Some (r, after)) e =
    let unit = first_unit-unit size text after r e in
    let shorter : length after ≤ n = omega (arith, length-append unit.0 after, ap length unit.1) in
    elim (cases_Bool (is_quit r)) [
      | inl q ↦ rw (e, q, reading_within) (Reads-quit size text unit.0 after r unit.1 unit.2 q)
      | inr q ↦ rw (e, q, reading_within) (Reads-onto size text unit.0 after (reading_within n size after).1 r
          (reading_within n size after).0 unit.1 unit.2 q (next after shorter))
    ]

reading_within-Reads : (n size : ℕ) (text : List ℕ) → length text ≤ n
    → Reads size text (reading_within n size text).0 (reading_within n size text).1
reading_within-Reads zero size text short = grind (arith, common_steps)
reading_within-Reads (suc n) size text short = read_first n size text (reading_within-Reads n size) short (first_unit size text) refl

pub reading-Reads : (size : ℕ) (text : List ℕ) → Reads size text (reading size text).0 (reading size text).1
reading-Reads size text = reading_within-Reads (length text) size text (omega arith)

-- the same, under a name that an attribute can cite
pub ruleset computed_readings = (reading-Reads)

-- These are the requests of a text, and this its rest: the last request is a quit, or the rest begins with no unit.
abbrev IsRead : ℕ → List Request → List ℕ → Type 0
IsRead size [] rest = BeginsNoUnit size rest
IsRead size (r ∷ requests) rest = ((is_quit r ≡ true) × (requests ≡ [])) ⊎ ((is_quit r ≡ false) × IsRead size requests rest)

is_read : (size : ℕ) (requests : List Request) (rest : List ℕ) → IsTrue (quits_last requests)
    → IsTrue (ends_by_quit requests) ⊎ BeginsNoUnit size rest → IsRead size requests rest
is_read size [] rest last ended = grind (arith, common_steps)
is_read size (r ∷ []) rest last ended = grind (arith, common_steps, cases_Bool)
is_read size (r ∷ next ∷ requests) rest last ended = grind (arith, common_steps, is_read size (next ∷ requests) rest)

-- the unit that two lists of units begin with
first_same : (size : ℕ) (r s : Request) (rs ss : List Request) (u v rest other : List ℕ) → u ++ rest ≡ v ++ other
    → (a : AreUnits size u (r ∷ rs)) (b : AreUnits size v (s ∷ ss)) → (a.1 ++ rest ≡ b.1 ++ other) × IsSameRequest r s
first_same size r s rs ss u v rest other e a b =
    grind (arith, append_assoc, first_unit-append size a.0 (a.1 ++ rest) r a.3, first_unit-append size b.0 (b.1 ++ other) s b.3)

units_unique : (size : ℕ) (firsts seconds : List Request) (u v rest other : List ℕ) → u ++ rest ≡ v ++ other
    → AreUnits size u firsts → AreUnits size v seconds → IsRead size firsts rest → IsRead size seconds other
    → (rest ≡ other) × AreSameRequests firsts seconds
units_unique size [] [] u v rest other e a b f s = (cc, tt)
units_unique size [] (s ∷ ss) u v rest other e a b fe se = grind (arith, common_steps)
units_unique size (r ∷ rs) [] u v rest other e a b fe se = grind (arith, common_steps)
units_unique size (r ∷ rs) (s ∷ ss) u v rest other e a b fe se =
    let same = first_same size r s rs ss u v rest other e a b in
    grind (arith, common_steps, units_unique size rs ss a.1 b.1 rest other same.0 a.4 b.4)

pub Reads-unique : (size : ℕ) (text : List ℕ) (firsts seconds : List Request) (rest other : List ℕ)
    → Reads size text firsts rest → Reads size text seconds other → (rest ≡ other) × AreSameRequests firsts seconds
Reads-unique size text firsts seconds rest other a b =
    grind (arith, is_read, units_unique size firsts seconds a.units b.units rest other)
