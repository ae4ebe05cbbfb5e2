use Rattle.std.proofs.{Common.arith, lemmas.Grind.common_steps}
use Rattle.bq_state.proofs.{NamedLemmas.{found_pause, in_order}, PauseLemmas.none_paused}
use Rattle.bq_state.proofs.store.Store.is_paused.Goals as goal

pub returns-then-len-eq0 : goal.returns-then-len-eq0
returns-then-len-eq0 c = none_paused _ c.self.inside.table _ c.self.inside.jobs _ _ c.len.ensures.len c.self.invariant.ends c.self.view_is
    c.if-len-eq0.true

pub returns-in-None : goal.returns-in-None
returns-in-None c = grind (arith, common_steps, found_pause c.args.name.now, in_order)

pub returns-in-Some : goal.returns-in-Some
returns-in-Some c = grind (arith, common_steps, found_pause c.args.name.now, in_order)
