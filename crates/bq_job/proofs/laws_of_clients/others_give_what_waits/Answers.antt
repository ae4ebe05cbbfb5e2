use Rattle.std.proofs.{Common.{◌==◌, ◌≡◌, ◌≢◌, ℕ, arith, false}, lemmas.{Bool.{cases_Bool, eqb-true}, Grind.common_steps}}
use Rattle.bq_job.proofs.ClientStepLemmas.{others_give}
use Rattle.bq_job.proofs.laws_of_clients.others_give_what_waits.Goals as goal

differs : (a b : ℕ) → a ≢ b → (a == b) ≡ false
differs a b other = grind (arith, common_steps, cases_Bool, eqb-true)

pub returns : goal.returns
returns c first last at seat client what outcome given other step = search (others_give, differs)
