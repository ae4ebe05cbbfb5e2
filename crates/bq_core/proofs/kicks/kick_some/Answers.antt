use Rattle.std.proofs.{Common.{ap, arith, suc, sym, ℕ, ◌+◌, ◌∙◌, ◌≡◌}, lemmas.Grind.common_steps}
use Rattle.bq_core.proofs.{AskLemmas.{asks_more, asks_then}, FiredTimerLemmas.{chosen, one_fewer}}
use Rattle.bq_core.proofs.KickLemmas.{all_counted, kicked_all, kicks_first, none_kicked}
use Rattle.bq_core.specs.Kicking.{KicksFirst}
use Rattle.bq_job.specs.machine.{Machine.Machine, kicked}
use Rattle.bq_jobs.specs.Ranks.{is_listed}
use Rattle.bq_state.specs.{CoreParts.machine_of, Store.StoreSeen}
use Rattle.bq_core.proofs.kicks.kick_some.Goals as goal

pub loop-done-preserved : goal.loop-done-preserved
loop-done-preserved c =
    let was = c.loop-done.invariant in
    let st = c.loop-done.state in
    let found = c.in-Some.ensures in
    let one = chosen _ _ _ _ _ _ st.sound.ids found.id in
    let made = ap (λ (x : Machine). x.jobs) c.change_job.ensures.after in
    let same = ap (λ (k : StoreSeen). k.jobs.jobs) found.kept.same in
    let kicks : KicksFirst c.args.list c.args.tube.now st.store.jobs.jobs c.change_job.new.state.store.jobs.jobs =
    rw (made, same, one.id_is) (kicks_first _ _ _ _ _ _ c.requires.out st.sound.ids one.first) in
    let few = one_fewer (is_listed c.args.list c.args.tube.now) kicked c.in-Some.id 1 st.next_id _ one.job
    st.sound.ids one.found one.passes_is (c.requires.out one.job) in
    let on : (n : ℕ) → (c.loop-done.done + 1) + n ≡ c.loop-done.done + suc n = λ n. omega arith in
    record {
      kicked = λ n. rw (on n) (was.kicked (suc n) ∙ kicks.jobs n);
      count = λ n. rw (on n) (was.count (suc n) ∙ (let e = kicks.count n in omega arith));
      others = grind (arith, common_steps);
      fewer = rw (made, same) (omega (arith, few, was.fewer));
      asks = asks_more _ (omega arith) (asks_then was.asks (asks_then found.kept.asks c.change_job.ensures.asks));
    }

pub returns-in_default-clause-kicked : goal.returns-in_default-clause-kicked
returns-in_default-clause-kicked c =
    let was = c.loop-done.invariant in
    rw c.in_default.ensures.kept.same (was.others ∙ ap (λ js. record (machine_of c.args.state.now) { jobs = js })
    (sym (kicked_all _ _ c.args.bound c.loop-done.done _ _ (omega arith) was.kicked c.in_default.ensures.id)))

pub returns-clause-kicked : goal.returns-clause-kicked
returns-clause-kicked c =
    let whole : c.args.bound ≡ c.loop-done.done + 0 = omega arith in
    grind (arith, none_kicked)

pub returns-in_default-clause-count : goal.returns-in_default-clause-count
returns-in_default-clause-count c =
    c.from.ensures ∙ all_counted c.args.list c.args.tube.now c.args.bound c.loop-done.done
    c.args.state.now.store.jobs.jobs c.loop-done.state.store.jobs.jobs (omega arith) c.loop-done.invariant.count c.in_default.ensures.id
