-- A wait that is no longer than one that ends in time ends in time too.
use Rattle.std.proofs.Common.{ℕ, Option, Some, None, arith}
use Rattle.bq_event_loop.specs.Sleeping.{IsNoLonger}

pub no_longer : (wait most limit : Option ℕ) → IsNoLonger most wait → IsNoLonger wait limit → IsNoLonger most limit
no_longer wait most None s h = tt
no_longer None most (Some limit) s h = absurd h
no_longer (Some a) None (Some limit) s h = absurd s
no_longer (Some a) (Some b) (Some limit) s h = omega (arith, s, h)
