-- Undisturbed jobs are handed out once, and in the order of their puts.
use Rattle.std.proofs.Common.{Bool, List, None, Option, Some, ap, arith, cond, false, inl, inr, refl, subst, sym, true, ℕ, [], ◌++◌, ◌<◌}
use Rattle.std.proofs.{Common.{◌∙◌, ◌∷◌, ◌≡◌, ◌≤◌, ◌⊎◌}, lemmas.Bool.{both_ways, cases_Bool, cond_both, eq-eqb, eqb-true}}
use Rattle.std.proofs.{lemmas.Bool.{false_from_ne_true, or_parts}, lemmas.Grind.common_steps}
use Rattle.std.proofs.{lemmas.List.Elements.Contains-append_cases, lemmas.List.Folds.list_any-append, lemmas.List.Sums.sum_by-append}
use Rattle.std.specs.{List.{AllByRecursion as All, Contains, list_any}, Prelude.{count_by, option_map, ◌==◌}}
use Rattle.bq_job.proofs.JobMoves.{Goes, IsHandOutMove, IsPutMove, Move, handing, is_plain, moves, putting, quiet, stops}
use Rattle.bq_job.proofs.{LawfulLemmas.new_is_lawful, LookupLemmas.found_job}
use Rattle.bq_job.proofs.ListLemmas.{all_weaker, count_all_not, count_cons, list_any_not, list_any_with, none_in_parts, none_pass}
use Rattle.bq_job.proofs.{LookupLemmas.{job_at_end, job_in_map, job_in_more}, StepMoves.{parts_go, run_gone}}
use Rattle.bq_job.specs.{Types.Job, declared.job.Job.Job, laws.{Happening, IsHandedOut, IsHandedOutBefore, IsPutBefore, IsUndisturbed}}
use Rattle.bq_job.specs.{laws.{comes_first, disturbs, happenings, is_hand_out, is_put, parts_of_run, put}, machine.Settings}
use Rattle.bq_job.specs.{machine.{is_ready, is_reserved, job_with, new_machine, reserved_by}, machine.Machine.Machine, promise.GoesBy}
use Rattle.bq_job.specs.promise.{Transition}

-- held, or not present
abbrev pub IsNotFree : Option Job → Type 0
IsNotFree None = Unit {0}
IsNotFree (Some j) = is_reserved j.state ≡ true

-- The id was given out, and its job is held or gone.
abbrev pub IsSpent : ℕ → Machine → Type 0
IsSpent id m = (id < m.next_id) × IsNotFree (job_with id m.jobs)

-- a test that plain happenings do not pass
none_plain : (p : Happening → Bool) (happened : List Happening) → ((h : Happening) → is_plain h ≡ true → p h ≡ false)
    → All (λ h. is_plain h ≡ true) happened → list_any p happened ≡ false
none_plain p happened fails plain = list_any_not p happened (all_weaker _ _ happened fails plain)

-- A move hands this job out, or not.
hands : (id : ℕ) (m n : Machine) (happened : List Happening) → Move m happened n
    → (list_any (is_hand_out id) happened ≡ false) ⊎ ((h : IsHandOutMove m happened n) × (h.job.id ≡ id))
hands id m n happened (quiet q) = inl (none_plain (is_hand_out id) happened (λ h plain. grind (arith, common_steps)) q.plain)
hands id m n happened (putting p) = inl (ap (list_any (is_hand_out id)) p.happened_is)
hands id m n happened (handing h) = elim (cases_Bool (h.job.id == id)) [
  | inl e ↦ inr (h, eqb-true h.job.id id e)
  | inr e ↦ inl (ap (list_any (is_hand_out id)) h.happened_is ∙ rw e refl)
]

-- lookup after a hand-out
pub handed_lookup : (id : ℕ) (m n : Machine) (happened : List Happening) (h : IsHandOutMove m happened n)
    → job_with id n.jobs ≡ option_map (λ j. cond (j.id == h.job.id) (reserved_by m.moment h.seat j) j) (job_with id m.jobs)
handed_lookup id m n happened h = grind (arith, common_steps, job_in_map, cond_both)

-- lookup of another id after a put
pub put_lookup : (id : ℕ) (m n : Machine) (happened : List Happening) (h : IsPutMove m happened n) → id < m.next_id
    → job_with id n.jobs ≡ job_with id m.jobs
put_lookup id m n happened h less = grind (arith, common_steps, job_in_more, false_from_ne_true, eqb-true)

spent_after : (id : ℕ) (m n : Machine) (happened : List Happening) → Move m happened n → list_any (disturbs id) happened ≡ false
    → IsSpent id m → IsSpent id n
spent_after id m n happened (quiet q) still spent = grind (arith, common_steps)
spent_after id m n happened (putting p) still spent = grind (arith, put_lookup id m n happened p)
spent_after id m n happened (handing h) still spent = grind (arith, handed_lookup id m n happened h)

none_more : (id : ℕ) {m n : Machine} {happened : List Happening} → Goes m happened n → list_any (disturbs id) happened ≡ false
    → IsSpent id m → list_any (is_hand_out id) happened ≡ false
none_more id stops still spent = refl
none_more id {m} (moves k xs ys move rest) still spent =
    let each = none_in_parts (disturbs id) xs ys still in
    let now : list_any (is_hand_out id) xs ≡ false = grind (arith, common_steps, hands id m k xs move) in
    grind (arith, common_steps, list_any-append, none_more id rest each.1 (spent_after id m k xs move each.0 spent))

-- A job that nothing disturbs is handed out at most once.
handed_once : (id : ℕ) {m n : Machine} {happened : List Happening} → Goes m happened n → list_any (disturbs id) happened ≡ false
    → count_by (is_hand_out id) happened ≤ 1
handed_once id stops still = omega arith
handed_once id {m} (moves k xs ys move rest) still =
    let each = none_in_parts (disturbs id) xs ys still in
    let both = sum_by-append (λ h. cond (is_hand_out id h) 1 0) xs ys in
    elim (hands id m k xs move) [
      | inl none ↦ let now = count_all_not _ xs (none_pass _ xs none) in let more = handed_once id rest each.1 in omega arith
      | inr (h, e) ↦
          let spent : IsSpent id k = grind (arith, handed_lookup id m k xs h, cond_both, both_ways, eq-eqb h.job.id id e) in
          let none = count_all_not _ ys (none_pass (is_hand_out id) ys (none_more id rest each.1 spent)) in
          grind (arith, common_steps, count_cons)
    ]

-- A part in which neither of two things happens does not change their order.
comes_behind : (one other : Happening → Bool) (happened more : List Happening) → list_any one happened ≡ false
    → list_any other happened ≡ false → comes_first one other (happened ++ more) ≡ comes_first one other more
comes_behind one other [] more h i = refl
comes_behind one other (x ∷ happened) more h i = grind (arith, or_parts, comes_behind one other happened more)

-- a put that comes later
pub put_behind : (j : Job) (happened more : List Happening) → list_any (is_put j.id) happened ≡ false → Contains (happened ++ more) (put j)
    → Contains more (put j)
put_behind j happened more none i = elim (Contains-append_cases happened more (put j) i) [
  | inl c ↦ absurd (both_ways _ none (list_any_with (is_put j.id) happened (put j) c (eq-eqb j.id j.id refl)))
  | inr c ↦ c
]

-- A move puts a job with this id, or not.
pub puts : (id : ℕ) (m n : Machine) (happened : List Happening) → Move m happened n
    → (list_any (is_put id) happened ≡ false) ⊎ ((q : IsPutMove m happened n) × (q.job.id ≡ id))
puts id m n happened (quiet q) = inl (none_plain (is_put id) happened (λ h plain. grind (arith, common_steps)) q.plain)
puts id m n happened (handing h) = inl (ap (list_any (is_put id)) h.happened_is)
puts id m n happened (putting q) = elim (cases_Bool (q.job.id == id)) [
  | inl e ↦ inr (q, eqb-true q.job.id id e)
  | inr e ↦ inl (ap (list_any (is_put id)) q.happened_is ∙ rw e refl)
]

-- a put now, or later
pub put_now_or_behind : (j : Job) (m n : Machine) (happened more : List Happening) (p : IsPutMove m happened n)
    → Contains (happened ++ more) (put j) → (p.job ≡ j) ⊎ Contains more (put j)
put_now_or_behind j m n happened more p h = grind (arith, common_steps)

-- A job that is put later gets an id that has not been given out yet.
put_above : (j : Job) {m n : Machine} {happened : List Happening} → Goes m happened n → Contains happened (put j) → m.next_id ≤ j.id
put_above j stops i = absurd (let less = i.1 in omega arith)
put_above j {m} (moves k xs ys move rest) i =
    grind (arith, common_steps, puts j.id m k xs move, put_behind, put_now_or_behind, put_above j rest)

-- Of two jobs, the one that is put first has no larger id.
ids_in_order : (id : ℕ) (b : Job) {m n : Machine} {happened : List Happening} → Goes m happened n
    → comes_first (is_put id) (is_put b.id) happened ≡ true → Contains happened (put b) → id ≤ b.id
ids_in_order id b stops first i = absurd cc
ids_in_order id b {m} (moves k xs ys move rest) first i =
    elim (puts id m k xs move) [
      | inr (q, e) ↦ let above = put_above b (moves k xs ys move rest) i in let next = q.id in omega arith
      | inl none ↦ elim (puts b.id m k xs move) [
        | inr (q, e) ↦ grind (arith, common_steps, cases_Bool, eq-eqb)
        | inl other ↦ ids_in_order id b rest (sym (comes_behind (is_put id) (is_put b.id) xs ys none other) ∙ first)
            (put_behind b xs ys other i)
      ]
    ]

-- the job is ready, as it was put
pub record IsReadyAs (j : Job) (m : Machine) : Type 0 where
  pub job : Job
  pub there : job_with j.id m.jobs ≡ Some job
  pub below : j.id < m.next_id
  pub ready : is_ready job ≡ true
  pub pri : job.pri ≡ j.pri
  pub tube : job.tube ≡ j.tube

-- where an undisturbed job is before these happenings: held or gone, ready, or not yet put
pub data Stands (j : Job) (m : Machine) (more : List Happening) : Type 0 where
  spent : IsSpent j.id m → Stands j m more
  waits : IsReadyAs j m → Stands j m more
  unborn : m.next_id ≤ j.id → Contains more (put j) → Stands j m more

-- where it is after a move
stands_after : (j : Job) (m n k : Machine) (xs ys : List Happening) → Move m xs n → Goes n ys k → j.delay ≡ 0
    → list_any (disturbs j.id) xs ≡ false → Stands j m (xs ++ ys) → Stands j n ys
stands_after j m n k xs ys move goes now still (spent s) = spent (spent_after j.id m n xs move still s)
stands_after j m n k xs ys (quiet q) goes now still (waits r) = grind (arith, common_steps)
stands_after j m n k xs ys (putting p) goes now still (waits r) = waits (grind (arith, put_lookup j.id m n xs p r.below))
stands_after j m n k xs ys (handing h) goes now still (waits r) = grind (arith, common_steps, handed_lookup j.id m n xs h)
stands_after j m n k xs ys (quiet q) goes now still (unborn above i) = grind (arith, common_steps, unborn, put_behind, none_plain)
stands_after j m n k xs ys (handing h) goes now still (unborn above i) = grind (arith, unborn, put_behind)
stands_after j m n k xs ys (putting p) goes now still (unborn above i) =
    let seen = put_now_or_behind j m n xs ys p i in
    grind (arith, common_steps, job_at_end, unborn, put_above j goes)

-- an undisturbed job that is handed out while this happens
pub record IsDue (j : Job) (m : Machine) (happened : List Happening) : Type 0 where
  pub at_once : j.delay ≡ 0
  pub still : list_any (disturbs j.id) happened ≡ false
  pub stands : Stands j m happened
  pub out : list_any (is_hand_out j.id) happened ≡ true

due_after : (j : Job) (m n k : Machine) (xs ys : List Happening) → Move m xs n → Goes n ys k → list_any (is_hand_out j.id) xs ≡ false
    → IsDue j m (xs ++ ys) → IsDue j n ys
due_after j m n k xs ys move goes none d =
    let still = none_in_parts (disturbs j.id) xs ys d.still in
    let stands = stands_after j m n k xs ys move goes d.at_once still.0 d.stands in
    record { at_once = d.at_once; still = still.1; stands = stands; out = grind (arith, common_steps, d.out) }

module _ (a b : Job) (pri : a.pri ≡ b.pri) (tube : a.tube ≡ b.tube) (less : a.id < b.id) where
  -- The second can't be handed out while the first is still to be.
  not_second : (m k n : Machine) (xs ys : List Happening) → Goes m (xs ++ ys) n → (h : IsHandOutMove m xs k) → h.job.id ≡ b.id
      → IsDue a m (xs ++ ys) → IsDue b m (xs ++ ys) → Stands a m (xs ++ ys) → ⊥
  not_second m k n xs ys goes h is d other (spent s) = both_ways _ (none_more a.id goes d.still s) d.out
  not_second m k n xs ys goes h is d other (waits r) = grind (arith, common_steps, cases_Bool, found_job, both_ways)
  not_second m k n xs ys goes h is d other (unborn above i) = let below = h.below in omega arith

  -- The first is handed out first.
  handed_in_order : {m n : Machine} {happened : List Happening} → Goes m happened n → IsDue a m happened → IsDue b m happened
      → comes_first (is_hand_out a.id) (is_hand_out b.id) happened ≡ true
  handed_in_order stops d other = absurd (let out = d.out in cc)
  handed_in_order {m} {n} (moves k xs ys move rest) d other = elim (hands a.id m k xs move) [
    | inr (h, e) ↦ rw (h.happened_is, eq-eqb h.job.id a.id e) refl
    | inl none ↦ elim (hands b.id m k xs move) [
      | inr (h, e) ↦ absurd (not_second m k n xs ys (moves k xs ys move rest) h e d other d.stands)
      | inl none_other ↦ comes_behind (is_hand_out a.id) (is_hand_out b.id) xs ys none none_other
          ∙ handed_in_order rest (due_after a m k n xs ys move rest none d) (due_after b m k n xs ys move rest none_other other)
    ]
  ]

-- a run from a new model, as moves
run_goes : (settings : Settings) (taken : List Transition) (last : Machine) → GoesBy (new_machine settings) taken last
    → Goes (new_machine settings) (happenings (parts_of_run taken)) last
run_goes settings taken last goes = grind (arith, common_steps, parts_go, run_gone, new_is_lawful)

still : (j : Job) (happened : List Happening) → IsUndisturbed j happened → list_any (disturbs j.id) happened ≡ false
still j happened u = grind (arith, common_steps)

pub at_most_once : (settings : Settings) (taken : List Transition) (last : Machine) (j : Job) → GoesBy (new_machine settings) taken last
    → IsUndisturbed j (happenings (parts_of_run taken)) → count_by (is_hand_out j.id) (happenings (parts_of_run taken)) ≤ 1
at_most_once settings taken last j goes u = search (handed_once, run_goes, still)

comes_itself : (p : Happening → Bool) (happened : List Happening) → list_any p happened ≡ true → comes_first p p happened ≡ true
comes_itself p [] h = h
comes_itself p (x ∷ happened) h = elim (cases_Bool (p x)) [ inl e ↦ rw e refl | inr e ↦ rw e (comes_itself p happened (rw e at h)) ]

due : (j : Job) {m last : Machine} {happened : List Happening} → Goes m happened last → IsUndisturbed j happened
    → list_any (is_hand_out j.id) happened ≡ true → IsDue j m happened
due j {happened = happened} g u out =
    record { at_once = u.at_once; still = still j happened u; stands = unborn (put_above j g u.accepted) u.accepted; out = out }

pub in_order : (settings : Settings) (taken : List Transition) (last : Machine) (a b : Job) → GoesBy (new_machine settings) taken last
    → IsUndisturbed a (happenings (parts_of_run taken)) → IsUndisturbed b (happenings (parts_of_run taken))
    → a.pri ≡ b.pri → a.tube ≡ b.tube
    → IsPutBefore a.id b.id (happenings (parts_of_run taken)) → IsHandedOut a.id (happenings (parts_of_run taken))
    → IsHandedOut b.id (happenings (parts_of_run taken))
    → IsHandedOutBefore a.id b.id (happenings (parts_of_run taken))
in_order settings taken last a b goes ua ub pri tube first out_a out_b =
    let happened = happenings (parts_of_run taken) in
    let g = run_goes settings taken last goes in
    let ids : a.id ≤ b.id = ids_in_order a.id b g first ub.accepted in
    elim (cases_Bool (a.id == b.id)) [
      | inl e ↦ subst (λ id. comes_first (is_hand_out a.id) (is_hand_out id) happened ≡ true) (eqb-true a.id b.id e)
          (comes_itself (is_hand_out a.id) happened out_a)
      | inr e ↦ handed_in_order a b pri tube (grind (arith, eq-eqb)) g (due a g ua out_a) (due b g ub out_b)
    ]
