use Rattle.std.proofs.Common.{◌∙◌, List, ap, map, sym}
use Rattle.bq_job.specs.declared.settings.Settings.{Settings}
use Rattle.bq_line.specs.Tending.{door_seen}
use Rattle.bq_link.specs.EndStates.{SeatState}
use Rattle.bq_run.specs.ThreadRuns.{IsRunOf}
use Rattle.bq_host.proofs.SettingsLemmas.{run_keeps_settings}
use Rattle.bq_run.proofs.LinkedLemmas.{all_done, linked, run_joined, still_doored}
use Rattle.bq_run.proofs.SettleLemmas.{same_run}
use Rattle.bq_run.proofs.ThreadLemmas.{back_paired}
use Rattle.bq_run.proofs.run.run_sessions.Goals as goal

pub settled_run-requires-clause-pairs : goal.settled_run-requires-clause-pairs
settled_run-requires-clause-pairs g c =
    let p = c.in-Ok-new_posts.ensures in
    let v = c.in-Ok-serve_posts.ensures in
    let ended = c.in-Ok-serve_posts.ended in
    let posts = c.in-Ok-new_posts.posts in
    back_paired c.in-Ok.core_end ended.core_end c.in-Ok.ends.items (map (λ q. q.end) posts.seats.items) ended.ends.items
    posts.control.end ended.control_end c.in-Ok.ensures.seats.1 p.ends v.served.0 v.control.same (rw p.core at v.core.same)

pub returns-clause-served : goal.returns-clause-served
returns-clause-served g c =
    let at = door_seen g.D.Door in
    let config = c.args.config in
    let p = c.in-Ok-new_posts.ensures in
    let v = c.in-Ok-serve_posts.ensures in
    let ended = c.in-Ok-serve_posts.ended in
    let posts = c.in-Ok-new_posts.posts in
    let is = p.config ∙ c.in_ok-new_core.ensures.config in
    let all = c.in-Ok.ends.items in
    let firsts : List SeatState = map (λ q. q.end) posts.seats.items in
    let lasts = ended.ends.items in
    let o = rw (is, p.core, p.clock) at v.core in
    let s = rw (ap (λ (s : Settings). s.max_job_size) is) at v.served in
    let k = rw p.control at v.control in
    let doored = still_doored at config.max_job_size config.seats all firsts lasts ended.doors.items posts.control.end p.ends
    c.in-Ok.ensures.seats.0 s in
    let run = c.settled_run.result in
    let f = c.settled_run.ensures in
    let done =
    all_done at g.C.Clock.given g.I.Read.remaining g.I.ControlReader.may_fail config ended.doors.items c.in-Ok.core_end ended.core_end
    run.core_end firsts lasts run.ends.items posts.control.end ended.control_end c.args.clock ended.clock c.args.control
    ended.control (g.K.QueueCore.machine ended.core) (g.K.QueueCore.comparisons ended.core) doored s o k f.core f.ends f.settled in
    same_run (IsRunOf g.C.Clock.given g.D.Door.lines_over g.I.Read.remaining g.I.ControlReader.may_fail g.K.QueueCore.machine
    g.K.QueueCore.comparisons config c.args.clock c.args.control) run ended f.rest.0 f.rest.1 f.rest.2 f.rest.3 (record {
      readings = o.readings;
      gave = o.gave;
      over = k.over;
      read = k.read;
      fault = k.fault;
      history = run_joined _ _ _ _ _ _ _ _ _ _ done;
      linked = linked _ _ _ _ _ _ _ _ _ _ done;
      of_intake = f.core.same.0 ∙ o.same.0 ∙ c.in-Ok.ensures.core.0 ∙ ap (λ i. i.id) (sym f.intake);
      compared = done.core_done.compared;
    })

pub returns-clause-settings : goal.returns-clause-settings
returns-clause-settings g c = run_keeps_settings c.steps_keep_settings.ensures _ _ _ _ _ (returns-clause-served g c).history.run

pub returns-clause-headline : goal.returns-clause-headline
returns-clause-headline g c served = c.the_headline.ensures.jobs _ _ _ _ _ served.history.run
