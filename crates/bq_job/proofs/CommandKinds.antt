-- The kind of each command: the only case split over all requests.
use Rattle.std.proofs.lemmas.Bool.{cases_Bool}
use Rattle.bq_job.proofs.WatchedLemmas.{none_twice_behind}
use Rattle.std.proofs.lemmas.Bool.{and_from}
use Rattle.std.proofs.Common.{◌||◌, ◌≡◌, ◌≤◌, Bool, List, None, Some, ℕ, arith, cond, false, inl, inr, not, refl, true}
use Rattle.std.proofs.lemmas.{Bool.{and_parts, cond_both, eq-eqb}, Grind.common_steps}
use Rattle.std.specs.{List.list_any, Prelude.{◌==◌, filter, length, take}}
use Rattle.bq_job.specs.machine.{is_buried, is_closed_answer, is_delayed}
use Rattle.bq_job.specs.{beside.{has_one, is_refusal, none_twice, watches_once}, machine.Effect}
use Rattle.bq_job.specs.machine.{SeatRecord, asked, greatest}
use Rattle.bq_job.specs.machine.{is_reserved, job_with, kickable, kicked, later}
use Rattle.bq_job.specs.machine.{name_list, on_job, reserved_by, server_statistics, telling}
use Rattle.bq_job.specs.machine.{tubes, watched_with, watching, watching_or_refused, with_job, Machine.Machine}
use Rattle.bq_job.specs.{promise.answers_wanted, reading.TubeName.is_same_name, Types.{Answer, Job, Request}}
use Rattle.bq_job.specs.declared.answer.Answer.TheVariants as answers
use Rattle.bq_job.specs.declared.request.Request.TheVariants as requests
use Rattle.bq_job.specs.declared.step.Step.TheVariants as steps
use Rattle.bq_job.proofs.BecomeLemmas.{IsAside, all_of_take, chosen_not_held, free_by_delay, held_not_ready}
use Rattle.bq_job.proofs.BecomeLemmas.{kickable_aside, one_becomes, put_aside_not_held}
use Rattle.bq_job.proofs.EffectKinds.{IsFreeOrOwn, Kind, SaysDone, adds, changes_jobs, changes_seat}
use Rattle.bq_job.proofs.EffectKinds.{changes_tube, deletes, is_common, passes, tells, waits}
use Rattle.bq_job.proofs.{ChangeLemmas.{Becomes, becomes_itself}, LookupLemmas.{found_job, job_found}}
use Rattle.bq_job.proofs.WatchedLemmas.{none_twice_filter}

-- an answer that says that the command was carried out, other than RESERVED
says : {request : Request} (answer : Answer) → answers_wanted request ≡ 1 → is_closed_answer answer ≡ false → is_refusal answer ≡ false
    → is_common (Some answer) ≡ true → SaysDone request answer
says answer wanted unclosed done common = record { wanted = wanted; unclosed = unclosed; done = done; own = inl common }

-- a command on the job with an id: it finds one that passes, or is answered NOT_FOUND
on_one : (request : Request) (id : ℕ) (test : Job → Bool) (act : Job → Effect) (m : Machine) (s : SeatRecord) → answers_wanted request ≡ 1
    → ((j : Job) → job_with id m.jobs ≡ Some j → test j ≡ true → Kind m s request (act j)) → Kind m s request (on_job id test act m)
on_one request id test act m s one each = grind (arith, common_steps, tells, cond_both)

-- The job of one id changes.
one_changes : (request : Request) (m : Machine) (s : SeatRecord) (answer : Answer) (id : ℕ) (f : Job → Job) (burials : ℕ) (j : Job)
    → job_with id m.jobs ≡ Some j → SaysDone request answer → (m.burials ≤ greatest → burials ≤ greatest)
    → ((k : Job) → (f k).id ≡ k.id) → ((k : Job) → IsFreeOrOwn s (f k)) → Becomes (steps.Ask request) j (f j)
    → Kind m s request (telling answer (record (with_job id f m) { burials = burials }))
one_changes request m s answer id f burials j found done counts same holder becomes =
    changes_jobs answer (λ k. cond (k.id == id) (f k) k) burials done (grind (arith, common_steps, cond_both, one_becomes))

reserve_job_kind : (id : ℕ) (m : Machine) (s : SeatRecord) → Kind m s (requests.ReserveJob id) (asked (requests.ReserveJob id) m s)
reserve_job_kind id m s =
    on_one (requests.ReserveJob id) id (λ j. not (is_reserved j.state))
    (λ j. telling (answers.Reserved j.id j.body) (with_job id (reserved_by m.moment s.number) m)) m s refl
    (λ j e p.
    one_changes (requests.ReserveJob id) m s (answers.Reserved j.id j.body) id (reserved_by m.moment s.number) m.burials j e
    (grind (arith, common_steps, found_job)) (λ h. h) (λ k. refl) (λ k. inr (eq-eqb s.number s.number refl))
    (grind (arith, common_steps, found_job, eq-eqb)))

kick_kind : (bound : ℕ) (m : Machine) (s : SeatRecord) → Kind m s (requests.Kick bound) (asked (requests.Kick bound) m s)
kick_kind bound m s =
    let chosen = take bound (kickable s.used m.jobs) in
    changes_jobs (answers.KickedCount (length chosen)) (λ j. cond (list_any (λ k. k.id == j.id) chosen) (kicked j) j) m.burials
    (says (answers.KickedCount (length chosen)) refl refl refl refl) (record {
      counts = λ h. h;
      same = λ j. grind (arith, common_steps, cond_both);
      holder = grind arith;
      becomes = λ ids j i.
          let aside = all_of_take (IsAside m.jobs) bound (kickable s.used m.jobs) (kickable_aside s.used m.jobs m.next_id ids) in
          let found = job_found 1 m.next_id m.jobs j ids i in
          grind (arith, common_steps, cond_both, chosen_not_held, becomes_itself);
    })

kick_job_kind : (id : ℕ) (m : Machine) (s : SeatRecord) → Kind m s (requests.KickJob id) (asked (requests.KickJob id) m s)
kick_job_kind id m s =
    on_one (requests.KickJob id) id (λ j. is_buried j.state || is_delayed j.state)
    (λ j. telling answers.Kicked (with_job id kicked m)) m s refl
    (λ j e p.
    one_changes (requests.KickJob id) m s answers.Kicked id kicked m.burials j e (says answers.Kicked refl refl refl refl) (λ h. h)
    (λ k. refl) (λ k. inl refl)
    (grind (arith, common_steps, put_aside_not_held)))

ignore_kind : (tube : List ℕ) (m : Machine) (s : SeatRecord) → Kind m s (requests.Ignore tube) (asked (requests.Ignore tube) m s)
ignore_kind tube m s =
    of_rest (filter (λ name. not (is_same_name tube name)) s.watched)
    (λ w. none_twice_filter (λ name. not (is_same_name tube name)) s.watched (and_parts (has_one s.watched) (none_twice s.watched) w).1)
  where
    of_rest : (names : List (List ℕ)) → (watches_once s ≡ true → none_twice names ≡ true)
        → Kind m s (requests.Ignore tube) (watching_or_refused names m s)
    of_rest names once = grind (arith, common_steps, tells, changes_seat, says)

-- every request
pub kind_of : (request : Request) (m : Machine) (s : SeatRecord) → Kind m s request (asked request m s)
kind_of (requests.Put pri delay ttr body) m s = grind (arith, common_steps, tells, adds)
kind_of requests.Reserve m s = waits None refl refl
kind_of (requests.ReserveWithTimeout seconds) m s = waits (Some (later m.moment seconds)) refl refl
kind_of (requests.ReserveJob id) m s = reserve_job_kind id m s
kind_of (requests.Delete id) m s = grind (arith, common_steps, on_one, deletes)
kind_of (requests.Release id pri delay) m s = grind
    (arith, common_steps, on_one, one_changes, says, free_by_delay, held_not_ready, cases_Bool, found_job, eq-eqb)
kind_of (requests.Bury id pri) m s = grind (arith, common_steps, on_one, one_changes, says, held_not_ready, cases_Bool, found_job, eq-eqb)
kind_of (requests.Touch id) m s = grind (arith, common_steps, on_one, one_changes, says, eq-eqb, held_not_ready)
kind_of (requests.Kick bound) m s = kick_kind bound m s
kind_of (requests.KickJob id) m s = kick_job_kind id m s
kind_of (requests.Use tube) m s = grind (arith, common_steps, changes_seat, says)
kind_of requests.ListTubeUsed m s = tells (answers.Using s.used) refl refl refl
kind_of (requests.Watch tube) m s =
    changes_seat _ (watching (watched_with tube s)) (grind (arith, says))
    (grind (arith, common_steps, and_parts, cond_both, and_from, none_twice_behind))
kind_of (requests.Ignore tube) m s = ignore_kind tube m s
kind_of (requests.Peek id) m s = grind (arith, common_steps, tells)
kind_of requests.PeekReady m s = grind (arith, common_steps, tells)
kind_of requests.PeekDelayed m s = grind (arith, common_steps, tells)
kind_of requests.PeekBuried m s = grind (arith, common_steps, tells)
kind_of (requests.PauseTube tube delay) m s = grind (arith, common_steps, cond_both, changes_tube, tells)
kind_of (requests.StatsJob id) m s = grind (arith, common_steps, tells)
kind_of (requests.StatsTube tube) m s = grind (arith, common_steps, cond_both, tells)
kind_of requests.Stats m s = tells (answers.Ok (server_statistics m)) refl refl refl
kind_of requests.ListTubes m s = tells (answers.Ok (name_list (tubes m))) refl refl refl
kind_of requests.ListTubesWatched m s = tells (answers.Ok (name_list s.watched)) refl refl refl
kind_of requests.Quit m s = passes refl
kind_of (requests.Refused why) m s = grind (arith, common_steps, tells)
