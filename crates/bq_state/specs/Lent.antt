-- What a store is after a borrow of it has ended.
use Rattle.std.specs.{Borrow.{Fml, MutBor, follows_so}, Prelude.{⊤, ◌≡◌}}
use mathlib.Core.Option.{none}
use Rattle.bq_jobs.specs.Lent.{IsCounted}
use Rattle.bq_state.specs.{Store.StoreSeen, contracts.store.Store.the_row}

-- when the borrow ends, the store behind s has not changed, but for the count of comparisons
abbrev pub LeavesStore : MutBor StoreSeen → Fml
LeavesStore s = follows_so the_row the_row s.ghost_name none (λ _ _. ⊤) (λ n. IsCounted s.now.jobs n.jobs × (n.tubes ≡ s.now.tubes))
