use Rattle.std.proofs.Common.{[], arith}
use Rattle.bq_line.proofs.TendingLemmas.{tended_new}
use Rattle.bq_lock.proofs.post.PostMember.serve.Goals as goal

pub loop-init : goal.loop-init
loop-init g c = record { iterator = (tt, tt); tended = ([], [], grind (arith, tended_new)); same = grind arith }

pub loop-preserved : goal.loop-preserved
loop-preserved g c =
    let t = c.loop.invariant.tended in
    let w = c.go_on-progress.ensures.trace in
    let on = w.3 c.args.self.max_job_size t.0 t.1 t.2 in
    grind arith
