-- Which bells are rung. A bell wakes the thread of one seat.
use Rattle.std.specs.Prelude.{ℕ, ◌≡◌, ◌<◌, ◌==◌, not, nat_le, MatchBool, List, [], Option, Some, None, filter, length}
use Rattle.bq_lock.specs.declared.bells.Rings.{Rings}
use Rattle.bq_lock.specs.declared.bells.Rings.TheVariants as rings

-- the seats that were answered, without the one whose thread this is
abbrev pub others : ℕ → List ℕ → List ℕ
others own seats = filter (λ s. not (s == own)) seats

-- These bells are rung and no others, or all bells are rung if these are more than eight.
abbrev pub AreRung : List ℕ → Rings → Type 0
AreRung seats (rings.Few few) = few.items ≡ seats
AreRung seats rings.All = 8 < length seats

-- If a tick was due, the bells of the seats that it answered are rung, and otherwise none.
abbrev pub AreRungByTick : Option ℕ → ℕ → List ℕ → Rings → Type 0
AreRungByTick None heard seats rung = AreRung [] rung
AreRungByTick (Some due) heard seats rung = MatchBool (nat_le due heard) (AreRung seats rung) (AreRung [] rung)
