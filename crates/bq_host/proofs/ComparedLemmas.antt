-- How the count of a core's comparisons grows along a history.
use Rattle.std.proofs.lemmas.Grind.{common_steps}
use Rattle.std.proofs.Common.{ℕ, Bool, List, [], ◌∷◌}
use Rattle.std.proofs.Common.{◌++◌, arith, append_assoc}
use Rattle.bq_job.specs.machine.Dispatch.{GivenAnswer}
use Rattle.bq_job.specs.machine.Machine.{Machine}
use Rattle.bq_job.specs.promise.Runs.{Entry}
use Rattle.bq_core_api.specs.Cost.{IsLookWithin}
use Rattle.bq_host.specs.Compared.{AreWithin, IsEntryWithin, LooksOnce}

-- A query that may have been made is within its bound.
pub looked_within : (known : Bool) (m : Machine) (count now : ℕ) → LooksOnce known m count now → IsLookWithin m count now
looked_within known m count now l = grind arith

-- one more step within its bound
pub within_on : (first middle next : Machine) (history : List Entry) (e : Entry) (given now : List GivenAnswer) (from count to : ℕ)
    → AreWithin first history given middle from count → IsEntryWithin middle e now next count to
    → AreWithin first (history ++ e ∷ []) (given ++ now) next from to
within_on first middle next [] e given now from count to (none, (same, still)) w = grind (arith, common_steps)
within_on first middle next (f ∷ history) e given now from count to (second, own, more, n, rest) w =
    grind (arith, append_assoc, within_on second middle next history e more now n count to rest.1.1 w)
