-- The parts of a step keep no record of a tube that does not exist.
use Rattle.std.proofs.{Common.{Bool, List, Option, [], arith, map, refl, ℕ, ◌∷◌, ◌≡◌}, lemmas.{Grind.common_steps, List.Folds.list_all-map}}
use Rattle.std.specs.List.{list_any}
use Rattle.bq_core.{proofs.TurnLemmas.{kept_by_dispatch, kept_by_ends}, specs.{AtOnce.waiting_at, Serving.NoneIsGone}}
use Rattle.bq_job.{proofs.ListLemmas.list_all_agree, specs.{declared.job.Job.Job, machine.{Chain, DispatchTurn, GivenAnswer}}}
use Rattle.bq_job.specs.machine.{Machine.Machine, SeatRecord, WaitEndTurn, after_timers, at_moment, is_seated_at, job_after_timers}
use Rattle.bq_job.specs.machine.{with_seat, without_wait}

agree_any : {A : Type 0} (p : A → Bool) (f : A → A) → ((x : A) → p (f x) ≡ p x) → (xs : List A) → list_any p (map f xs) ≡ list_any p xs
agree_any p f same [] = refl
agree_any p f same (x ∷ xs) = rw (same x, agree_any p f same xs) refl

-- changes of jobs that keep their tubes
jobs_alike : (m : Machine) (f : Job → Job) → ((j : Job) → (f j).tube ≡ j.tube) → NoneIsGone m
    → NoneIsGone (record m { jobs = map f m.jobs })
jobs_alike m f same none = simp (agree_any, same) none

-- a change of a seat that keeps its tubes
seat_alike : (m : Machine) (number : ℕ) (f : SeatRecord → SeatRecord)
    → ((name : List ℕ) (s : SeatRecord) → is_seated_at name (f s) ≡ is_seated_at name s) → NoneIsGone m → NoneIsGone (with_seat number f m)
seat_alike m number f same none = grind (arith, common_steps, list_all_agree, agree_any)

-- A client that begins to wait leaves its tubes as they are.
pub waiting_alike : (m : Machine) (number : ℕ) (until : Option ℕ) → NoneIsGone m → NoneIsGone (waiting_at number until m)
waiting_alike m number until = seat_alike m number _ (λ name s. refl)

stops_alike : (m : Machine) (number : ℕ) → NoneIsGone m → NoneIsGone (with_seat number without_wait m)
stops_alike m number = seat_alike m number without_wait (λ name s. refl)

pub dispatch_alike : (first : Machine) (given : List GivenAnswer) (last : Machine) → Chain DispatchTurn first given last
    → NoneIsGone first → NoneIsGone last
dispatch_alike = kept_by_dispatch NoneIsGone stops_alike (λ m id moment seat none. jobs_alike m _ (λ j. grind (arith, common_steps)) none)

pub ends_alike : (first : Machine) (given : List GivenAnswer) (last : Machine) → Chain WaitEndTurn first given last
    → NoneIsGone first → NoneIsGone last
ends_alike = kept_by_ends NoneIsGone stops_alike

pub timers_alike : (at : ℕ) (m : Machine) → NoneIsGone m → NoneIsGone (after_timers (at_moment at m))
timers_alike at m none =
    rw list_all-map (jobs_alike m (job_after_timers (at_moment at m).moment) (λ j. grind (arith, common_steps)) none)
