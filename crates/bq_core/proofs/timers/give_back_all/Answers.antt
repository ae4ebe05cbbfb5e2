use Rattle.std.proofs.Common.{arith, ◌∙◌}
use Rattle.bq_core.proofs.{AskLemmas.{asks_more, asks_then}, FiredTimerLemmas.{given_fewer, given_one, id_ranked}}
use Rattle.bq_core.proofs.timers.give_back_all.Goals as goal

pub loop-id-preserved : goal.loop-id-preserved
loop-id-preserved c =
    let was = c.loop-id.invariant in
    let found = c.in-Some.ensures in
    let falls = given_fewer c.args.becomes _ c.loop-id.state c.change_job.new.state _ _
    c.requires.free (id_ranked _ _ _ _ found.rank) found.kept.same c.change_job.ensures.after in
    record {
      left = given_one _ _ c.loop-id.state c.change_job.new.state _ _
          c.requires.free (id_ranked _ _ _ _ found.rank) found.kept.same c.change_job.ensures.after ∙ was.left;
      asks = asks_more _ (omega arith) (asks_then was.asks (asks_then found.kept.asks c.change_job.ensures.asks));
      fewer = omega arith;
    }

pub loop-id-smaller : goal.loop-id-smaller
loop-id-smaller c = given_fewer c.args.becomes _ c.loop-id.state c.change_job.new.state _ _
    c.requires.free (id_ranked _ _ _ _ c.in-Some.ensures.rank) c.in-Some.ensures.kept.same c.change_job.ensures.after
