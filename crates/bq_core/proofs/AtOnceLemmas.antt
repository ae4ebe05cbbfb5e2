-- A reserve that is given a job at once has the result of its wait and of one turn of dispatch.
use Rattle.std.proofs.Common.{List, None, Option, Some, [], ap, arith, false, if◌then◌else◌, length, map, not, refl, sym, true, ℕ, ◌&&◌}
use Rattle.std.proofs.{Common.{◌*◌, ◌++◌, ◌+◌, ◌==◌, ◌∙◌, ◌∷◌, ◌≡◌}, Math.Nat.add-mul, lemmas.Bool.{and_parts, cases_Bool, eqb-true}}
use Rattle.std.{proofs.lemmas.{Grind.common_steps, Nat.mul-le}, specs.{List.AllByRecursion as All, Prelude.{Ok, fold, option_map}}}
use Rattle.bq_core.proofs.{ActLemmas.{acts_silent, asking_client, number_found}, AskLemmas.{asks_more, search_grows}}
use Rattle.bq_core.proofs.{CostLemmas.given_length, DispatchLemmas.{id_of_best, next_is, next_offer, taker_known}}
use Rattle.bq_core.proofs.{SearchLemmas.{client_entries, client_waits}, StepLemmas.waiting_alike, TurnLemmas.{gives_nothing, shared_given}}
use Rattle.bq_core.{proofs.TurnLemmas.turn_given, specs.{Acting.Acts, AtOnce.{ActsOrGives, TakesAtOnce, is_reserve, may_take, waiting_at}}}
use Rattle.bq_core.specs.HandOuts.{handed_to}
use Rattle.bq_core.specs.Serving.{NoneIsGone}
use Rattle.bq_core_api.specs.{Cost.changed_jobs, Outbox.Outbox}
use Rattle.bq_job.{proofs.{KeptLemmas.only_seat, QuietLemmas.forgets_nothing}, specs.{declared.step.Step.Step, machine.DispatchTurn}}
use Rattle.bq_job.specs.machine.{Machine.Machine, SeatRecord, effect, forgetting, has_refused_share, is_waiting, later, next_job}
use Rattle.bq_job.specs.machine.{raised, reserved_by, seat_with, silent, waiting_from, with_job, without_wait}
use Rattle.bq_jobs.specs.{JobsSeen.JobsSeen, Searching.Asks}
use Rattle.bq_state.proofs.{PartsLemmas.numbered_after, WantedLemmas.{known_nothing, known_of_seat, none_known}}
use Rattle.bq_state.specs.{Asking.{AsksAsChanged, AsksWithin}, CoreParts.{machine_of}, Offers.with_offer}
use Rattle.bq_state.specs.{TubesSeen.records, WantedJobs.{AreKnown, is_nothing}, declared.core_parts.CoreParts.CoreParts}
use Rattle.bq_state.specs.declared.{known.wanted.Wanted.TheVariants.{Client, Nothing}, seats.SeatChange.TheVariants.Wait}
use Rattle.bq_job.specs.declared.answer.Answer.TheVariants as answers
use Rattle.bq_job.specs.declared.request.Request.TheVariants as requests
use Rattle.bq_job.specs.declared.step.Step.TheVariants as steps

-- the seat once its client waits, and once it waits no longer
module _ (seat : ℕ) (s : SeatRecord) (ticket : ℕ) (until : Option ℕ) where
  found_set : (seats : List SeatRecord) → seat_with seat seats ≡ Some s
      → seat_with seat (map (λ t. if t.number == seat then waiting_from ticket until t else t) seats) ≡ Some (waiting_from ticket until s)
  found_set [] at = absurd cc
  found_set (t ∷ seats) at = grind (arith, common_steps, cases_Bool, found_set seats)

  unset : is_waiting s ≡ false → (seats : List SeatRecord) → All (λ t. t.number ≡ seat → t ≡ s) seats
      → map (λ t. if t.number == seat then without_wait t else t)
      (map (λ t. if t.number == seat then waiting_from ticket until t else t) seats) ≡ seats
  unset awake [] all = refl
  unset awake (t ∷ seats) all = grind (arith, common_steps, cases_Bool, eqb-true, unset awake seats all.1)

-- what a reserve does
waits_until : (m : Machine) (seat : ℕ) (s : SeatRecord) → seat_with seat m.seats ≡ Some s → (s.connected && not (is_waiting s)) ≡ true
    → (what : Step) → is_reserve what ≡ true → (until : Option ℕ) × (effect m seat what ≡ silent (waiting_at seat until m))
waits_until m seat s at asking (steps.Ask requests.Reserve) e = (None, grind (arith, common_steps, number_found))
waits_until m seat s at asking (steps.Ask (requests.ReserveWithTimeout seconds)) e =
    (Some (later m.moment seconds), grind (arith, common_steps, number_found))
waits_until m seat s at asking what e = absurd cc

-- A client reserves while no waiting client may have a job.
pub record Reserves (st : CoreParts) (seat : ℕ) (what : Step) : Type 0 where
  client : SeatRecord
  at : seat_with seat st.seats.items ≡ Some client
  awake : is_waiting client ≡ false
  quiet : is_nothing st.known.wanted ≡ true
  until : Option ℕ
  is : effect (machine_of st) seat what ≡ silent (waiting_at seat until (machine_of st))

pub reserves : (st : CoreParts) (seat : ℕ) (what : Step) → may_take seat what st ≡ true → Reserves st seat what
reserves st seat what may =
    let parts = and_parts (is_reserve what) _ may in
    let both = and_parts (is_nothing st.known.wanted) _ parts.1 in
    let a = asking_client (seat_with seat st.seats.items) both.1 in
    let w = waits_until (machine_of st) seat a.0 a.1 a.2 what parts.0 in
    record { client = a.0; at = a.1; awake = grind (arith, and_parts); quiet = both.0; until = w.0; is = w.1 }

module _ (st : CoreParts) (seat : ℕ) (what : Step) (r : Reserves st seat what) where
  abbrev then_waits : Machine
  then_waits = waiting_at seat r.until (machine_of st)

  abbrev client : SeatRecord
  client = waiting_from (raised st.tickets) r.until r.client

  found : seat_with seat then_waits.seats ≡ Some client
  found = found_set seat r.client (raised st.tickets) r.until st.seats.items r.at

  known : AreKnown (Client seat) then_waits.jobs then_waits.seats then_waits.tubes
  known = known_of_seat seat (Wait (raised st.tickets) r.until) Nothing _ _ _
      (known_nothing (machine_of st) (none_known st.known.wanted (machine_of st) r.quiet st.sound.known.wanted_jobs))

  -- what its tubes offer is the next job
  next : (id : ℕ) → Some id ≡ option_map (λ (r : ℕ × ℕ). r.1)
      (fold (with_offer st.store.jobs.jobs (records st.store.tubes)) None r.client.watched)
      → Some id ≡ option_map (λ j. j.id) (next_job then_waits)
  next id first = first ∙ ap (option_map (λ (r : ℕ × ℕ). r.1)) (next_offer st (client ∷ []) ∙ sym (client_waits then_waits seat _
      (numbered_after seat (Wait (raised st.tickets) r.until) _ st.sound.numbered) found known)) ∙ id_of_best (next_job then_waits)

  -- the model once the client holds the job is the one after a turn of dispatch
  handed : (id : ℕ) → record (with_job id (reserved_by st.moment seat) (machine_of st)) { tickets = raised st.tickets }
      ≡ handed_to seat id then_waits
  handed id = ap (λ seats. record (with_job id (reserved_by st.moment seat) (machine_of st)) { tickets = raised st.tickets; seats = seats })
      (sym (unset _ _ _ _ r.awake _ (only_seat _ _ _ _ _ st.sound.numbered r.at)))

  -- The client is given the job that its tubes offer.
  pub given_at_once : (id : ℕ) (body : List ℕ) (old new : Outbox) (last : CoreParts) → TakesAtOnce seat what id body st last
      → NoneIsGone (machine_of st) → new ≡ record old { given = old.given ++ (seat, answers.Reserved id body) ∷ [] }
      → ActsOrGives (machine_of st) seat what old new (machine_of last) st.store.jobs last.store.jobs
  given_at_once id body old new last t none told =
      let next_id = next id (t.job r.client r.at) in
      let last_is = t.after ∙ handed id in
      let gives = turn_given then_waits id next_id seat (taker_known then_waits seat known) (Ok body)
      (λ j e. t.body_is j (sym (next_is then_waits id st.sound.ids next_id) ∙ e)) old new (machine_of last)
      (λ j s i n b. shared_given then_waits (machine_of last) id seat body j s old new i n b last_is told) in
      let long = given_length DispatchTurn has_refused_share then_waits (machine_of last) old new gives in
      let one : length gives.given ≡ 1 = grind (arith, common_steps) in
      record {
        acted_machine = then_waits;
        left = then_waits;
        told = old;
        comparisons = st.store.jobs.comparisons;
        acts = acts_silent _ _ _ _ _ r.is;
        forgotten = sym (forgets_nothing _ (waiting_alike (machine_of st) seat r.until none));
        turns = gives;
        asks = record { stays = omega arith; rise = omega arith };
        asks_then = rw one (asks_more _ (omega (arith, client_entries then_waits.seats seat _ found)) (t.asks r.client r.at));
      }

-- What is asked by a search that finds no job, and then by the command itself.
looked_then : (before between after last : JobsSeen) → Asks 9 before between → between.jobs ≡ before.jobs → AsksAsChanged between after
    → last ≡ record after { tubes = last.tubes }
    → AsksWithin (9 * changed_jobs before.jobs last.jobs + 20) before (record before { jobs = last.jobs; comparisons = last.comparisons })
looked_then before between after last a same b kept = grind (arith, common_steps, mul-le, search_grows, add-mul)

-- The command's own effect was carried out after a search that found no job, and then tubes were forgotten.
pub acted_alone : (start looked acted st : CoreParts) (seat : ℕ) (what : Step) (old told new : Outbox)
    → (machine_of looked ≡ machine_of start) × (told ≡ old) × Asks 9 start.store.jobs looked.store.jobs
    → Acts (machine_of looked) seat what told new (machine_of acted) → AsksAsChanged looked.store.jobs acted.store.jobs
    → machine_of st ≡ forgetting (machine_of acted) → st.store.jobs ≡ record acted.store.jobs { tubes = st.store.jobs.tubes }
    → ActsOrGives (machine_of start) seat what old new (machine_of st) start.store.jobs st.store.jobs
acted_alone start looked acted st seat what old told new same acts asks left kept = record {
  acted_machine = machine_of acted;
  left = machine_of st;
  told = new;
  comparisons = st.store.jobs.comparisons;
  acts = rw (same.0, same.1) at acts;
  forgotten = left;
  turns = gives_nothing _ _ refl _ _;
  asks = looked_then _ _ _ _ same.2 (ap (λ (x : Machine). x.jobs) same.0) asks kept;
  asks_then = asks_more {n = 0} _ (omega arith) (record { many = refl; stays = omega arith; rise = omega arith });
}
