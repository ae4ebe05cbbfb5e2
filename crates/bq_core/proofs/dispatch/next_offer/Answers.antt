use Rattle.std.{proofs.Common.{None, ap, fold, option_map, refl, sym, ◌∙◌}, specs.List.list_any}
use Rattle.bq_core.proofs.{DispatchLemmas.{next_offer, offered_is, only_if}, SearchLemmas.{client_waits, counted_there, tube_waits}}
use Rattle.bq_job.specs.machine.{seat_with}
use Rattle.bq_jobs.specs.JobsSeen.{ranked}
use Rattle.bq_state.{proofs.WantedLemmas.none_known, specs.{CoreParts.machine_of, Crowds.is_waiter, Offers.{these, with_offers}}}
use Rattle.bq_state.specs.{TubesSeen.records, WantedJobs.is_nothing}
use Rattle.bq_core.proofs.dispatch.next_offer.Goals as goal

pub returns-in-Nothing-clause-next : goal.returns-in-Nothing-clause-next
returns-in-Nothing-clause-next c = sym (ap (option_map (ranked (λ j. j.pri))) (none_known _ (machine_of c.args.state.now)
    (ap is_nothing c.in-Nothing.is) c.args.state.now.sound.known.wanted_jobs))

pub returns-in-Tube-clause-next : goal.returns-in-Tube-clause-next
returns-in-Tube-clause-next c =
    let st = c.args.state.now in
    let name = c.in-Tube.tube in
    c.offer_to.ensures.offer
    ∙ rw (counted_there name st, offered_is st name) (only_if st.store.jobs.jobs (list_any (is_waiter name) st.seats.items) _)
    ∙ sym (tube_waits (machine_of st) name (rw c.in-Tube.is at st.sound.known.wanted_jobs))

pub returns-in-Client-clause-next : goal.returns-in-Client-clause-next
returns-in-Client-clause-next c =
    let st = c.args.state.now in
    let o = seat_with c.in-Client.seat st.seats.items in
    let known = rw c.in-Client.is at st.sound.known.wanted_jobs in
    c.best_of_client.ensures.best
    ∙ ap (λ ss. fold (with_offers st.store.jobs.jobs (records st.store.tubes)) None (these (seat_with c.in-Client.seat ss)))
    c.as_slice.ensures.value
    ∙ next_offer st (these o) ∙ sym (client_waits (machine_of st) _ o st.sound.numbered refl known)
