-- The steps of a connection, as requests are submitted one after another.
use Rattle.std.proofs.Common.{◌≡◌, ◌≢◌, ◌+◌, ◌<◌, false, List, [], ◌∷◌, ◌++◌, refl, ap, ◌∙◌, map, length, arith, not, IsTrue, ◌==◌, ℕ}
use Rattle.std.proofs.Common.{true, inr, append_assoc, append-nil, sym, ◌⊎◌, ◌≤◌}
use Rattle.std.proofs.lemmas.Bool.{or_parts}
use Rattle.std.proofs.lemmas.Grind.{common_steps}
use Rattle.std.proofs.lemmas.List.Folds.{list_any-append}
use Rattle.bq_job.specs.reading.Reading.{is_quit, ends_by_quit, Reads, AreUnits, BeginsNoUnit}
use Rattle.bq_job.specs.promise.LineSteps.{answered_count, is_waiting_request, ends_by_wait}
use Rattle.bq_job.specs.declared.request.Request.{Request}
use Rattle.bq_job.specs.declared.step.Step.{Step}
use Rattle.bq_job.specs.declared.answer.Answer.{Answer}
use Rattle.bq_job.specs.declared.request.Request.TheVariants as requests
use Rattle.bq_job.specs.declared.step.Step.TheVariants as steps
use Rattle.bq_job.proofs.{GivenLemmas.wanted_append, ReadsLemmas.Reads-onto}
use Rattle.bq_seat.specs.SeatStands.{has_quit, HasAskedQuit}
use Rattle.bq_seat.specs.InTurn.{IsInTurn}
use Rattle.bq_seat.specs.Past.{Past}

-- each of these requests is answered
pub answered_count-asked : (asked : List Request) → has_quit asked ≡ false → answered_count asked ≡ length asked
answered_count-asked [] q = refl
answered_count-asked (r ∷ asked) q = grind (arith, common_steps, answered_count-asked asked)

-- and so are those before a quit
pub answered_count-quit : (asked : List Request) → has_quit asked ≡ false → answered_count (asked ++ requests.Quit ∷ []) ≡ length asked
answered_count-quit [] q = refl
answered_count-quit (r ∷ asked) q = grind (arith, common_steps, answered_count-quit asked)

pub no_quit_last : (asked : List Request) → has_quit asked ≡ false → IsTrue (not (ends_by_quit asked))
no_quit_last [] q = refl
no_quit_last (r ∷ []) q = grind (arith, common_steps)
no_quit_last (r ∷ s ∷ asked) q = grind (arith, common_steps, no_quit_last (s ∷ asked))

pub ends_by_wait-asked : (asked : List Request) (q : Request) → ends_by_wait (asked ++ q ∷ []) ≡ is_waiting_request q
ends_by_wait-asked [] q = refl
ends_by_wait-asked (r ∷ asked) q = grind (arith, common_steps, ends_by_wait-asked asked q)

pub has_quit-last : (asked : List Request) (q : Request) → has_quit (asked ++ q ∷ []) ≡ false
    → (has_quit asked ≡ false) × (is_quit q ≡ false)
has_quit-last asked q e = grind (arith, common_steps, list_any-append)

pub some_asked : (asked : List Request) → 0 < length asked → asked ≢ []
some_asked asked h e = grind (arith, common_steps)

-- ---- readings that continue after submitted requests

-- the empty text does not begin with a complete request
pub BeginsNoUnit-[] : (size : ℕ) → BeginsNoUnit size []
BeginsNoUnit-[] size [] more request e u = u
BeginsNoUnit-[] size (b ∷ first) more request e u = cc

pub none_kept : (kept : List ℕ) → (length kept == 0) ≡ true → kept ≡ []
none_kept kept h1 = grind (arith, common_steps)

-- submitted requests, none of them quit, and then a reading of what comes after them
pub Reads-after : (size : ℕ) (text units after rest : List ℕ) (asked next : List Request)
    → text ≡ units ++ after → AreUnits size units asked → has_quit asked ≡ false → Reads size after next rest
    → Reads size text (asked ++ next) rest
Reads-after size text units after rest [] next is u q more = rw (is, u) more
Reads-after size text units after rest (r ∷ asked) next is u q more =
    let both = or_parts (is_quit r) (has_quit asked) q in
    Reads-onto size text u.0 (u.1 ++ after) rest r (asked ++ next) (is ∙ rw u.2 (append_assoc u.0 u.1 after)) u.3 both.0
    (Reads-after size (u.1 ++ after) u.1 after rest asked next refl u.4 both.1 more)

-- a reading whose rest is an unfinished request
pub Reads-begun : (size : ℕ) (text units begun : List ℕ) (asked : List Request)
    → text ≡ units ++ begun → AreUnits size units asked → has_quit asked ≡ false → BeginsNoUnit size begun → Reads size text asked begun
Reads-begun size text units begun asked is u q none =
    rw append-nil at (Reads-after size text units begun begun asked [] is u q
    (record { units = []; text_is = refl; are_units = refl; last_quits = refl; ended = inr none }))

-- ---- each step is submitted in its turn

-- lists with a last element
pub last_same : {A : Type 0} (xs ys : List A) (x y : A) → xs ++ x ∷ [] ≡ ys ++ y ∷ [] → (xs ≡ ys) × (x ≡ y)
last_same [] ys x y e = grind (arith, common_steps)
last_same (a ∷ xs) [] x y e = grind (arith, common_steps)
last_same (a ∷ xs) (b ∷ ys) x y e = grind (arith, common_steps)

-- the submitted requests, without the last one
pub record EndsBy (asked : List Request) : Type 0 where
  pub before : List Request
  pub last : Request
  pub is : asked ≡ before ++ last ∷ []
  pub steps_are : map steps.Ask asked ≡ map steps.Ask before ++ steps.Ask last ∷ []

pub ends_by : (r : Request) (asked : List Request) → EndsBy (r ∷ asked)
ends_by r [] = record { before = []; last = r; is = refl; steps_are = refl }
ends_by r (s ∷ asked) = let more = ends_by s asked in record { before = r ∷ more.before; last = more.last; is = cc; steps_are = cc }

pub connects : (taken : List Step) (mail : List Answer) (step : Step) → taken ++ step ∷ [] ≡ steps.Connect ∷ [] → IsInTurn step taken mail
connects taken mail step e = grind (arith, common_steps)

pub asks_at : (asked : List Request) (taken : List Step) (mail : List Answer) (step : Step)
    → taken ++ step ∷ [] ≡ steps.Connect ∷ map steps.Ask asked → length mail + 1 ≡ length asked → has_quit asked ≡ false
    → IsInTurn step taken mail
asks_at [] taken mail step e count none = absurd (omega arith)
asks_at (r ∷ asked) taken mail step e count none =
    let ends = ends_by r asked in
    let last = last_same taken (steps.Connect ∷ map steps.Ask ends.before) step (steps.Ask ends.last)
    (e ∙ ap (λ xs. steps.Connect ∷ xs) ends.steps_are) in
    let quit : has_quit ends.before ≡ false = (has_quit-last ends.before ends.last (ap has_quit (sym ends.is) ∙ none)).0 in
    grind (arith, common_steps)

pub tells_at : (asked : List Request) (taken : List Step) (mail : List Answer) (step : Step)
    → taken ++ step ∷ [] ≡ (steps.Connect ∷ map steps.Ask asked) ++ steps.End ∷ [] → has_quit asked ≡ false → length mail + 1 ≡ length asked
    → IsInTurn step taken mail
tells_at asked taken mail step e none count =
    grind (arith, answered_count-asked, last_same taken (steps.Connect ∷ map steps.Ask asked) step steps.End e)

pub quits_at : (taken : List Step) (mail : List Answer) (step : Step) {p : Past} → HasAskedQuit p → p.steps ≡ taken ++ step ∷ []
    → p.mail ≡ mail → IsInTurn step taken mail
quits_at taken mail step q are same =
    let last = last_same taken (steps.Connect ∷ map steps.Ask q.asked) step (steps.Ask requests.Quit) (sym are ∙ q.steps_are) in
    grind arith

pub closes_at : (asked : List Request) (told : List Step) (taken : List Step) (mail : List Answer) (step : Step)
    → taken ++ step ∷ [] ≡ steps.Connect ∷ [] ++ map steps.Ask asked ++ told ++ steps.Close ∷ [] → (told ≡ []) ⊎ (told ≡ steps.End ∷ [])
    → answered_count asked ≤ length mail + 1 → IsInTurn step taken mail
closes_at asked told taken mail step e ends count =
    grind (arith, wanted_append, last_same taken ((steps.Connect ∷ map steps.Ask asked) ++ told) step steps.Close e)
