-- A turn of dispatch or of the ends of waits, and chains of turns.
use Rattle.std.proofs.Common.{Bool, List, None, Some, [], ap, append-nil, arith, false, get_or, inl, inr, length, refl, slice_get, subst}
use Rattle.std.proofs.Common.{true}
use Rattle.std.proofs.{Common.{ℕ, ◌++◌, ◌<◌, ◌||◌, ◌∙◌, ◌∷◌, ◌≡◌}, Math.Bool.{and-false, or-false, or-true}, lemmas.Grind.common_steps}
use Rattle.std.{proofs.lemmas.{List.length-append, Option.slice_get_read, Result.IfOk-weaker}, specs.List.{Contains, list_any}}
use Rattle.std.specs.Prelude.{IfOk, Ok, Result, option_map}
use Rattle.bq_core.specs.{HandOuts.{AddsHandOut, HandsOut}, Turns.{Gives, HasRoom, none_refused}, WaitEnds.AddsWaitEnd}
use Rattle.bq_core_api.specs.Outbox.{Outbox}
use Rattle.bq_job.proofs.{ChoiceLemmas.first_of_none_passes, ComputedLemmas.{next_seat_waits, waiting_falls}, DispatchLemmas.turn_of}
use Rattle.bq_job.{proofs.{LawfulLemmas.end_of, ListLemmas.{all_always, all_weaker, list_any_not, none_pass}}, specs.beside.waiting_count}
use Rattle.bq_job.specs.{declared.{answer.Answer.Answer, fault.NoMemory.NoMemory, job.Job.Job}, machine.{Chain, DispatchTurn, GivenAnswer}}
use Rattle.bq_job.specs.machine.{Machine.Machine, SeatRecord, WaitEndTurn, end_of_wait, has_refused_share, is_job_before, is_ready}
use Rattle.bq_job.specs.machine.{is_waiting, is_waiting_for, next_end, next_job, next_seat, reserved_by, with_job, with_seat, without_wait}
use Rattle.bq_job.specs.declared.answer.Answer.TheVariants as answers

-- if none passes the first test, none passes the second
pub none_stronger : {X : Type 0} (p q : X → Bool) (xs : List X) → ((x : X) → p x ≡ false → q x ≡ false) → list_any p xs ≡ false
    → list_any q xs ≡ false
none_stronger p q xs less none = list_any_not q xs (all_weaker _ _ xs less (none_pass p xs none))

-- no client waits: there is no next job
pub no_next_job : (m : Machine) → list_any is_waiting m.seats ≡ false → next_job m ≡ None
no_next_job m h = first_of_none_passes _ is_job_before m.jobs (list_any_not _ m.jobs (all_always _ m.jobs
    (λ j. none_stronger is_waiting (is_waiting_for m j) m.seats (λ s none. rw none refl) h)))

-- no job is ready: there is no next job
pub no_ready_job : (m : Machine) → list_any is_ready m.jobs ≡ false → next_job m ≡ None
no_ready_job m h = first_of_none_passes _ is_job_before m.jobs (none_stronger is_ready _ m.jobs
    (λ j none. list_any_not _ m.seats (all_always _ m.seats (λ s. rw none (and-false (is_waiting s))))) h)

-- What the end of a wait and the reservation of a job keep, turns keep.
module _ (P : Machine → Type 0) (stops : (m : Machine) (number : ℕ) → P m → P (with_seat number without_wait m)) where
  pub kept_by_ends : (first : Machine) (given : List GivenAnswer) (last : Machine) → Chain WaitEndTurn first given last → P first → P last
  kept_by_ends first [] last chain h = rw chain h
  kept_by_ends first (g ∷ given) last chain h =
      let e = end_of first g chain.0 chain.1 in
      kept_by_ends chain.0 given last chain.2 (rw e.next_is (stops first e.client.number h))

  pub kept_by_dispatch : ((m : Machine) (id moment seat : ℕ) → P m → P (with_job id (reserved_by moment seat) m))
      → (first : Machine) (given : List GivenAnswer) (last : Machine) → Chain DispatchTurn first given last → P first → P last
  kept_by_dispatch gets first [] last chain h = rw chain h
  kept_by_dispatch gets first (g ∷ given) last chain h =
      let t = turn_of first g chain.0 chain.1 in
      kept_by_dispatch gets chain.0 given last chain.2 (elim t.hands [
        | inl i ↦ rw i.1 (stops _ _ (gets first t.job.id first.moment t.client.number h))
        | inr i ↦ rw i.1 (stops first t.client.number h)
      ])

-- what holds of a value that was returned
pub if_ok : (r : Result (List ℕ) NoMemory) (x : List ℕ) (P : List ℕ → Type 0) → r ≡ Ok x → IfOk r P → P x
if_ok r x P e p = subst (λ z. IfOk z P) e p

-- the job with this id is the next one
module _ (m : Machine) (id : ℕ) (job_is : Some id ≡ option_map (λ j. j.id) (next_job m)) where
  the_job : (j : Job) × (next_job m ≡ Some j) × (id ≡ j.id)
  the_job = grind (arith, common_steps)

  -- a client waits for it: the one at the seat with this number
  module _ (number : ℕ) (seat_is : (j : Job) → next_job m ≡ Some j → Some number ≡ option_map (λ s. s.number) (next_seat m j)) where
    the_seat : (s : SeatRecord) × (next_seat m the_job.0 ≡ Some s) × (number ≡ s.number)
    the_seat = grind (arith, common_steps, the_job)

    waits : Contains m.seats the_seat.0 × (is_waiting the_seat.0 ≡ true)
    waits = let w = next_seat_waits m the_job.0 the_seat.0 the_seat.1 in (w.0, w.1)

    pub somebody_waits : 0 < waiting_count m
    somebody_waits = omega (arith, waiting_falls m the_seat.0 waits.0 waits.1)

    module _ (shared : Result (List ℕ) NoMemory) (body_is : IfOk shared (λ body. (j : Job) → next_job m ≡ Some j → body ≡ j.body))
        (old new : Outbox) (last : Machine) (given : HandsOut m id number shared old new last) where
      hands : AddsHandOut m the_job.0 the_seat.0 old new last
      hands = given the_job.0 the_seat.0 the_job.2 the_seat.2 (IfOk-weaker shared _ _ (λ body told. told the_job.0 the_job.1) body_is)

      -- whether the reference was given or not, the client stops waiting
      pub turn_falls : waiting_count last < waiting_count m
      turn_falls = let given = hands.hand_out in grind (arith, common_steps, waiting_falls, waits)

      pub turn_given : Gives DispatchTurn has_refused_share m last old new
      turn_given = let h = hands in grind (arith, common_steps, or-false, the_job, the_seat, turn_falls)

pub refused_joined : (xs ys : List GivenAnswer) → has_refused_share (xs ++ ys) ≡ (has_refused_share xs || has_refused_share ys)
refused_joined xs ys = grind (arith, common_steps)

pub chain_joined : (Turn : Machine → GivenAnswer → Machine → Type 0) (first middle last : Machine) (xs ys : List GivenAnswer)
    → Chain Turn first xs middle → Chain Turn middle ys last → Chain Turn first (xs ++ ys) last
chain_joined Turn first middle last [] ys a b = rw a at b
chain_joined Turn first middle last (x ∷ xs) ys a b = (a.0, a.1, chain_joined Turn a.0 middle last xs ys a.2 b)

module _ (Turn : Machine → GivenAnswer → Machine → Type 0) (refused : List GivenAnswer → Bool) where
  -- no turn was taken
  pub gives_nothing : refused [] ≡ false → (m : Machine) (o : Outbox) → Gives Turn refused m m o o
  gives_nothing none m o = grind (arith, common_steps, append-nil, or-false)

  -- first these turns were taken, and then those
  pub gives_joined : ((xs ys : List GivenAnswer) → refused (xs ++ ys) ≡ (refused xs || refused ys)) → (first middle last : Machine)
      (old between new : Outbox) → Gives Turn refused first middle old between → Gives Turn refused middle last between new
      → Gives Turn refused first last old new
  gives_joined joined first middle last old between new a b = grind (arith, common_steps, chain_joined, length-append)

  -- turns in which a waiting client stops waiting for each answer keep the room that there was
  pub room_kept : (more : ℕ) (first last : Machine) (old new : Outbox) → Gives Turn refused first last old new
      → HasRoom more first old → HasRoom more last new
  room_kept more first last old new gives room = grind (arith, common_steps, length-append)

-- one end of a wait is a chain of them
pub one_end : (m next : Machine) (old new : Outbox) (s : SeatRecord) → next_end m ≡ Some s → Contains m.seats s → is_waiting s ≡ true
    → AddsWaitEnd m s old new next → Gives WaitEndTurn none_refused m next old new
one_end m next old new s is here waits adds = grind (arith, common_steps, or-false, waiting_falls)

-- what was read at an index
pub same_read : {A : Type 0} (xs : List A) (i : ℕ) (x y : A) → i < length xs → y ≡ get_or xs i y → slice_get xs i ≡ Some x → y ≡ x
same_read xs i x y there read is = let here = slice_get_read xs (length xs) i y refl there read in cc

pub shared_given : (m last : Machine) (id number : ℕ) (body : List ℕ) (j : Job) (s : SeatRecord) (old new : Outbox) → id ≡ j.id
    → number ≡ s.number → body ≡ j.body → last ≡ with_seat number without_wait (with_job id (reserved_by m.moment number) m)
    → new ≡ record old { given = old.given ++ (number, answers.Reserved id body) ∷ [] } → AddsHandOut m j s old new last
shared_given m last id number body j s old new i n b after told = grind (arith, common_steps)

pub given_in_turn : (m mid last : Machine) (id number : ℕ) (body : List ℕ) (j : Job) (s : SeatRecord) (old new : Outbox) → id ≡ j.id
    → number ≡ s.number → body ≡ j.body → mid ≡ with_seat number without_wait m → last ≡ with_job id (reserved_by m.moment number) mid
    → new ≡ record old { given = old.given ++ (number, answers.Reserved id body) ∷ [] } → AddsHandOut m j s old new last
given_in_turn m mid last id number body j s old new i n b stops after told =
    shared_given m last id number body j s old new i n b (after ∙ ap (with_job id (reserved_by m.moment number)) stops) told

pub refused_given : (m last : Machine) (number : ℕ) (j : Job) (s : SeatRecord) (old new : Outbox) → number ≡ s.number
    → last ≡ with_seat number without_wait m → new ≡ record old { given = old.given ++ (number, answers.OutOfMemory) ∷ []; unshared = true }
    → AddsHandOut m j s old new last
refused_given m last number j s old new n after told = grind (arith, common_steps, or-true)

pub ended_given : (m last : Machine) (k number : ℕ) (s t : SeatRecord) (answer : Answer) (old new : Outbox) → k < length m.seats
    → t ≡ get_or m.seats k t → slice_get m.seats k ≡ Some s → number ≡ t.number → answer ≡ end_of_wait m s
    → last ≡ with_seat number without_wait m → new ≡ record old { given = old.given ++ (number, answer) ∷ [] }
    → AddsWaitEnd m s old new last
ended_given m last k number s t answer old new seat_there seat_read seat number_is answer_is after told =
    grind (arith, common_steps, same_read)
