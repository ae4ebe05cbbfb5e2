-- One more request after others.
use Rattle.std.proofs.Common.{◌++◌, ◌∷◌, ◌≡◌, IsTrue, List, [], ℕ, append-nil, append_assoc, false, refl, sym, arith}
use Rattle.bq_job.specs.reading.Reading.{AreUnits, IsUnit, is_quit, quits_last, ends_by_quit}
use Rattle.bq_job.specs.declared.request.Request.{Request}

-- a unit after units
pub AreUnits-append : (size : ℕ) (requests : List Request) (units unit : List ℕ) (r : Request) → AreUnits size units requests
    → IsUnit size unit r
    → AreUnits size (units ++ unit) (requests ++ r ∷ [])
AreUnits-append size [] units unit r are is = (unit, [], rw are (sym (append-nil unit)), is, refl)
AreUnits-append size (q ∷ requests) units unit r are is = grind (arith, append_assoc, AreUnits-append size requests are.1 unit r are.4 is)

pub ends_by_quit-append : (requests : List Request) (r : Request) → ends_by_quit (requests ++ r ∷ []) ≡ is_quit r
ends_by_quit-append [] r = refl
ends_by_quit-append (q ∷ []) r = refl
ends_by_quit-append (q ∷ next ∷ requests) r = ends_by_quit-append (next ∷ requests) r

-- if none of the requests is quit, one more may follow
pub quits_last-append : (requests : List Request) (r : Request) → IsTrue (quits_last requests) → ends_by_quit requests ≡ false
    → IsTrue (quits_last (requests ++ r ∷ []))
quits_last-append [] r last no_quit = refl
quits_last-append (q ∷ []) r last no_quit = rw no_quit refl
quits_last-append (q ∷ next ∷ requests) r last no_quit = grind (arith, quits_last-append (next ∷ requests) r)
