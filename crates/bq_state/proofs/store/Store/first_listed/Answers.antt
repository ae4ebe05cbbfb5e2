use Rattle.std.proofs.Common.{◌≡◌, ◌∙◌, None, arith, sym}
use Rattle.bq_jobs.specs.Numbering.{number_of}
use Rattle.bq_jobs.proofs.NamedFirsts.{none_listed}
use Rattle.bq_state.proofs.store.Store.first_listed.Goals as goal

pub returns-in_err-number-clause-rank : goal.returns-in_err-number-clause-rank
returns-in_err-number-clause-rank c =
    let none : number_of c.args.tube.now c.self.inside.table.tubes ≡ None = grind arith in
    let is : c.from_residual.result ≡ None = grind arith in
    rw (← c.self.view_is) (is ∙ sym (none_listed _ _ c.self.invariant.registered _ none _))
