-- What each event at a seat does, if its seat is known.
use Rattle.std.proofs.Common.{Bool, List, None, Option, Some, [], append-nil, arith, false, filter, if◌then◌else◌, is_some, length, nat_le}
use Rattle.std.proofs.{Common.{not, refl, true, ℕ, ◌&&◌, ◌++◌, ◌+◌, ◌==◌, ◌∙◌, ◌∷◌, ◌≡◌}, Math.Bool.{or-false}}
use Rattle.std.{proofs.lemmas.{Bool.{cases_Bool, eqb-true}, Grind.common_steps}, specs.List.list_any}
use Rattle.bq_core.{proofs.AskLemmas.asked_before, specs.Acting.{Acts, Replies, put_of, with_answer, with_reply}}
use Rattle.bq_core.specs.declared.{acts.Reply.{Reply}, job_acts.NewJob.NewJob}
use Rattle.bq_core_api.specs.Outbox.{Outbox}
use Rattle.bq_job.{proofs.{KeptLemmas.only_seat, ListLemmas.{all_weaker, found_passes, map_all_same}}, specs.beside.AreIdsWithin}
use Rattle.bq_job.specs.{declared.{answer.Answer.Answer, job.Job.Job, request.Request.Request, step.Step.Step}, machine.Machine.Machine}
use Rattle.bq_job.specs.machine.{SeatRecord, after_close, after_connect, asked, delete_effect, effect, ignore_effect}
use Rattle.bq_job.specs.machine.{is_full, is_reserved, is_waiting}
use Rattle.bq_job.specs.machine.{job_with, last_id, new_job, put_effect, raised, reserve_job_effect, reserved_by, seat_with}
use Rattle.bq_job.specs.machine.{step_takes_memory, takes_memory, telling, watch_effect, watches, watching, with_end}
use Rattle.bq_job.specs.machine.{reserve_effect, silent, with_job, with_put}
use Rattle.bq_job.specs.{machine.{with_seat, with_tube}, reading.TubeName.is_same_name}
use Rattle.bq_jobs.{proofs.Changes.found_id, specs.{JobsSeen.{ComparesAtMost, JobsSeen, with_added}, Searching.Asks, Seen.IsBodyOf}}
use Rattle.bq_state.{proofs.TubeLemmas.some_left, specs.{Asking.AsksAsChanged, JobChanges.is_passed_by, SeatChanges.AreNumbered}}
use Rattle.bq_state.specs.{SeatStates.{is_asking, is_connected, is_free}, TubeEntries.has_entry, TubesSeen.records}
use Rattle.bq_state.specs.declared.core_parts.CoreParts.{CoreParts}
use Rattle.bq_job.specs.declared.answer.Answer.TheVariants as answers
use Rattle.bq_job.specs.declared.request.Request.TheVariants as requests
use Rattle.bq_job.specs.declared.step.Step.TheVariants as steps

pub number_found : (n : ℕ) (seats : List SeatRecord) (s : SeatRecord) → seat_with n seats ≡ Some s → s.number ≡ n
number_found n seats s h = eqb-true s.number n (found_passes (λ s. s.number == n) seats s h).0

pub connected_free : (m : Machine) (seat : ℕ) → is_free (seat_with seat m.seats) ≡ true
    → (effect m seat steps.Connect).machine ≡ after_connect m seat
connected_free m seat free = grind (arith, common_steps, cases_Bool, number_found)

pub ended_connected : (m : Machine) (seat : ℕ) → is_connected (seat_with seat m.seats) ≡ true
    → (effect m seat steps.End).machine ≡ with_seat seat with_end m
ended_connected m seat there = grind (arith, common_steps, number_found)

pub closed_connected : (m : Machine) (seat : ℕ) → is_connected (seat_with seat m.seats) ≡ true
    → effect m seat steps.Close ≡ telling answers.Closed (after_close m seat)
closed_connected m seat there = grind (arith, common_steps, number_found)

-- there is a job that passes
passed_by : (p : Job → Bool) (o : Option Job) → is_passed_by p o ≡ true → (j : Job) × (o ≡ Some j) × (p j ≡ true)
passed_by p o h = grind (arith, common_steps)

pub reserve_job_done : (m first second last : Machine) (s : SeatRecord) (seat id : ℕ) (body : List ℕ) → s.number ≡ seat
    → is_passed_by (λ j. not (is_reserved j.state)) (job_with id m.jobs) ≡ true → first ≡ m → second ≡ first
    → IsBodyOf (job_with id first.jobs) body → last ≡ with_job id (reserved_by second.moment seat) second
    → reserve_job_effect id m s ≡ telling (answers.Reserved id body) last
reserve_job_done m first second last s seat id body at passes one two told after = grind (arith, common_steps, found_id, passed_by)

-- the model after the next id was given to a put
abbrev pub after_given : Machine → Machine
after_given m = record m { next_id = m.next_id + 1; puts = raised m.puts; draining = nat_le last_id m.next_id }

-- the outcome of an accepted put, whose job is made once its id was given
pub put_done : (m given last : Machine) (s : SeatRecord) (pri delay ttr id : ℕ) (body shared : List ℕ) (j : Job) → m.draining ≡ false
    → is_full m.settings.max_jobs m.jobs ≡ false → given ≡ after_given m → id ≡ m.next_id → shared ≡ body
    → j ≡ record (new_job given s pri delay ttr shared) { id = id }
    → AreIdsWithin 1 m.jobs m.next_id → (AreIdsWithin 1 m.jobs j.id → with_added j m.jobs ≡ m.jobs ++ j ∷ [])
    → last ≡ record (with_tube j.tube with_put given) { jobs = with_added j given.jobs }
    → put_effect pri delay ttr body m s ≡ telling (answers.Inserted id) last
put_done m given last s pri delay ttr id body shared j accepts free given_is id_is body_is is ids adds after = grind (arith, common_steps)

-- what is asked by an addition or a removal that is the only search
pub asked_in_all : (old between new : JobsSeen) → Asks 0 old between → ComparesAtMost 4 between new → AsksAsChanged old new
asked_in_all old between new none few = asked_before 0 4 (omega arith) none few

-- a tube that is already watched
pub watched_already : (m : Machine) (s : SeatRecord) (seat : ℕ) (tube : List ℕ) → AreNumbered m.seats → seat_with seat m.seats ≡ Some s
    → watches tube s ≡ true → watch_effect tube m s ≡ telling (answers.Watching (length s.watched)) m
watched_already m s seat tube numbered found h =
    let same = map_all_same (λ t. if t.number == seat then watching s.watched t else t) _ (all_weaker _ _ _
    (λ t only. grind (arith, common_steps, cases_Bool, eqb-true)) (only_seat 0 _ _ _ _ numbered found)) in
    rw (h, number_found seat m.seats s found, same) refl

pub watched_now : (m : Machine) (s : SeatRecord) (seat : ℕ) (tube : List ℕ) → seat_with seat m.seats ≡ Some s → watches tube s ≡ false
    → watch_effect tube m s ≡ telling (answers.Watching (length (s.watched ++ tube ∷ [])))
    (with_seat seat (watching (s.watched ++ tube ∷ [])) m)
watched_now m s seat tube found h = rw (h, number_found seat m.seats s found) refl

-- a tube that is no longer watched
pub none_left : {A : Type 0} (p : A → Bool) (xs : List A) → list_any p xs ≡ false → filter p xs ≡ []
none_left p [] h = refl
none_left p (x ∷ xs) h = grind (arith, common_steps, cases_Bool, none_left p xs)

pub not_ignored : (m : Machine) (s : SeatRecord) (tube : List ℕ) → list_any (λ name. not (is_same_name tube name)) s.watched ≡ false
    → ignore_effect tube m s ≡ telling answers.NotIgnored m
not_ignored m s tube h = rw (none_left _ _ h) refl

pub ignored_now : (m : Machine) (s : SeatRecord) (seat : ℕ) (tube : List ℕ) → seat_with seat m.seats ≡ Some s
    → list_any (λ name. not (is_same_name tube name)) s.watched ≡ true
    → ignore_effect tube m s ≡ telling (answers.Watching (length (filter (λ name. not (is_same_name tube name)) s.watched)))
    (with_seat seat (watching (filter (λ name. not (is_same_name tube name)) s.watched)) m)
ignored_now m s seat tube found h = grind (arith, common_steps, some_left, number_found)

-- the client that asks
pub asking_client : (o : Option SeatRecord) → is_asking o ≡ true
    → (s : SeatRecord) × (o ≡ Some s) × ((s.connected && not (is_waiting s)) ≡ true)
asking_client o h = grind (arith, common_steps)

-- the tube that it uses has an entry
pub used_has_entry : (st : CoreParts) (seat : ℕ) (s : SeatRecord) → seat_with seat st.seats.items ≡ Some s
    → is_asking (seat_with seat st.seats.items) ≡ true → has_entry s.used (records st.store.tubes) ≡ true
used_has_entry st seat s found asking = grind (arith, common_steps, found_passes)

pub acts_silent : (m : Machine) (seat : ℕ) (what : Step) (outs : Outbox) (last : Machine)
    → effect m seat what ≡ record { machine = last; answer = None } → Acts m seat what outs outs last
acts_silent m seat what outs last is = grind (arith, common_steps, append-nil, or-false)

pub some_there : (o : Option Job) → is_some o ≡ true → (j : Job) × (o ≡ Some j)
some_there o h = grind (arith, common_steps)

-- A step had this outcome.
pub acts_outcome : (m next : Machine) (seat : ℕ) (what : Step) (reply : Reply) (told : Answer) (old new : Outbox)
    → Replies (step_takes_memory what) m (effect m seat what) reply told next → new ≡ with_reply seat reply told old
    → Acts m seat what old new next
acts_outcome m next seat what reply told old new is adds = grind (arith, acts_silent, or-false)

effect_asked : (m : Machine) (seat : ℕ) (request : Request) → is_asking (seat_with seat m.seats) ≡ true
    → (s : SeatRecord) × (seat_with seat m.seats ≡ Some s) × (effect m seat (steps.Ask request) ≡ asked request m s)
effect_asked m seat request asking = grind arith

pub acts_asked : (m next : Machine) (seat : ℕ) (request : Request) (answer : Answer) (old new : Outbox)
    → is_asking (seat_with seat m.seats) ≡ true
    → ((s : SeatRecord) → seat_with seat m.seats ≡ Some s → asked request m s ≡ telling answer next)
    → new ≡ with_answer seat answer old → Acts m seat (steps.Ask request) old new next
acts_asked m next seat request answer old new asking does adds = grind arith

-- An allocation failed or a body could not be shared, so the command was skipped.
pub acts_replied : (m next : Machine) (seat : ℕ) (request : Request) (reply : Reply) (told : Answer) (old new : Outbox)
    → is_asking (seat_with seat m.seats) ≡ true
    → ((s : SeatRecord) → seat_with seat m.seats ≡ Some s → Replies (takes_memory request) m (asked request m s) reply told next)
    → new ≡ with_reply seat reply told old → Acts m seat (steps.Ask request) old new next
acts_replied m next seat request reply told old new asking does adds =
    let e = effect_asked m seat request asking in
    acts_outcome m next seat (steps.Ask request) reply told old new (rw e.2 (does e.0 e.1)) adds

-- A client waits from now on, and is not answered.
pub waits_asked : (m next : Machine) (seat : ℕ) (outs : Outbox) → is_asking (seat_with seat m.seats) ≡ true
    → ((s : SeatRecord) → s.number ≡ seat → reserve_effect None m s ≡ silent next) → Acts m seat (steps.Ask requests.Reserve) outs outs next
waits_asked m next seat outs asking does =
    let e = effect_asked m seat requests.Reserve asking in
    acts_silent m seat (steps.Ask requests.Reserve) outs next (e.2 ∙ does e.0 (number_found seat m.seats e.0 e.1))

-- a put that is not accepted, or for which an allocation failed
module _ (m : Machine) (seat : ℕ) (new : NewJob) (body : List ℕ) (asking : is_asking (seat_with seat m.seats) ≡ true)
    (old last : Outbox) where
  pub put_in_drain : m.draining ≡ true → last ≡ with_answer seat answers.Draining old → Acts m seat (put_of new body) old last m
  put_in_drain drains adds = acts_asked _ _ _ _ _ _ _ asking (λ s found. rw drains refl) adds

  module _ (accepts : m.draining ≡ false) where
    pub put_at_limit : is_full m.settings.max_jobs m.jobs ≡ true → last ≡ with_answer seat answers.OutOfMemory old
        → Acts m seat (put_of new body) old last m
    put_at_limit full adds = acts_asked _ _ _ _ _ _ _ asking (λ s found. rw (accepts, full) refl) adds

    pub put_left_out : (next : Machine) → is_full m.settings.max_jobs m.jobs ≡ false → next ≡ m
        → last ≡ record (with_answer seat answers.OutOfMemory old) { left_out = true } → Acts m seat (put_of new body) old last next
    put_left_out next free same adds = grind arith

-- what a put does, under a name that an attribute can cite
pub ruleset puts = (asked_in_all, put_in_drain, put_at_limit, put_left_out, used_has_entry)

-- The outcome of a deletion.
pub deletes : (m next : Machine) (seat id : ℕ) (answer : Answer) (old new : Outbox) → is_asking (seat_with seat m.seats) ≡ true
    → ((s : SeatRecord) → s.number ≡ seat → delete_effect id m s ≡ telling answer next)
    → new ≡ with_answer seat answer old → Acts m seat (steps.Ask (requests.Delete id)) old new next
deletes m next seat id answer old new asking does adds = search (acts_asked, number_found)
