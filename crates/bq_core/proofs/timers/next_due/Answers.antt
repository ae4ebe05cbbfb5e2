use Rattle.std.proofs.Common.{None, ap, fold, ◌∙◌}
use Rattle.bq_job.specs.beside.{dues_of_pause, dues_of_wait, earliest}
use Rattle.bq_state.{proofs.DueLemmas.{all_due, earliest_of_all, jobs_due_is, pauses_counted}, specs.CoreParts.{Fields, machine_of}}
use Rattle.bq_state.specs.{Dues.{first_pause_end, with_seat_due, with_warning_due}, Store.StoreSeen, TubesSeen.records}
use Rattle.bq_core.proofs.timers.next_due.Goals as goal

pub returns-clause-due : goal.returns-clause-due
returns-clause-due c =
    let st = c.args.state.now in
    let mid = c.jobs_due-jobs.new.state in
    let same = c.jobs_due-jobs.ensures.kept.same in
    let warning = c.warnings_due-warning.ensures.due ∙ ap (fold (with_warning_due mid.store.jobs.jobs) None) c.as_slice.ensures.value
    ∙ ap (λ (h : Fields). fold (with_warning_due h.jobs.jobs) None h.seats.items) same in
    let jobs = rw (c.jobs_due-jobs.ensures.due, warning) at c.earlier_of.ensures in
    let tubes = c.first_pause_end.ensures ∙ ap (λ (h : Fields). first_pause_end (records h.tubes)) c.settle_warnings.ensures
    ∙ ap (λ (k : StoreSeen). first_pause_end (records k.tubes)) c.warnings_due-warning.ensures.kept.same
    ∙ ap (λ (h : Fields). first_pause_end (records h.tubes)) same ∙ earliest_of_all (λ t. dues_of_pause t.pause) (records st.store.tubes)
    ∙ ap earliest (pauses_counted _ st.sound.entries.fresh) in
    let seats = c.seats_due-seats.ensures ∙ ap (fold with_seat_due None) c.as_slice-3.ensures.value
    ∙ ap (λ (h : Fields). fold with_seat_due None h.seats.items) same ∙ earliest_of_all (λ s. dues_of_wait s.wait) st.seats.items in
    c.earlier_of-3.ensures ∙ rw (jobs, jobs_due_is (machine_of st), c.earlier_of-2.ensures, tubes, seats, ← all_due)
