-- Seats that are to be woken since they have mail.
use Rattle.std.proofs.lemmas.Grind.{common_steps}
use Rattle.std.proofs.Common.{ℕ, ◌≡◌, inl, inr, ◌<◌, Bool, List, [], ◌∷◌, ◌++◌}
use Rattle.std.proofs.Common.{length, slice_set, refl, sym, ap, ◌∙◌, subst, arith, append_assoc}
use Rattle.std.specs.Prelude.{slice_index_or}
use Rattle.std.proofs.lemmas.Bool.{cases_lt}
use Rattle.std.proofs.lemmas.Bool.Decides.{eqb_tells}
use Rattle.std.proofs.lemmas.List.{get_or-set_other, get_or-set_same, get_or_default, get_or_past}
use Rattle.bq_job.specs.declared.answer.Answer.{Answer}
use Rattle.bq_job.specs.promise.Runs.{answers_to}
use Rattle.bq_job.specs.machine.Dispatch.{GivenAnswer}
use Rattle.bq_host.specs.MailStates.{MailState, OnlyDelivers}
use Rattle.bq_host.specs.Marks.{times}
use Rattle.bq_host.specs.WakeLists.{WakeList, Wakes, to_wake}

pub wakes_none : (mails : List (List Answer)) (w : WakeList) → Wakes mails mails w w
wakes_none mails w = record { seats = refl; kept = λ seat. omega arith; mail = λ seat below empty. inl empty }

pub wakes_then : (first next last : List (List Answer)) (old mid new : WakeList) → Wakes first next old mid → Wakes next last mid new
    → Wakes first last old new
wakes_then first next last old mid new a b = record {
  seats = b.seats ∙ a.seats;
  kept = λ seat. omega (arith, a.kept seat, b.kept seat);
  mail = λ seat below empty. grind (arith, a.mail seat below empty, a.seats, b.mail seat, b.kept seat);
}

-- A seat of the list's numbers is on it once it was added.
pub waits_now : (seat : ℕ) (w : WakeList) → seat < w.seats → 0 < times seat (to_wake seat w).waiting
waits_now seat w below = grind (arith, common_steps)

pub wakes_added : (mails : List (List Answer)) (seat : ℕ) (w : WakeList) → Wakes mails mails w (to_wake seat w)
wakes_added mails seat w = grind (arith, common_steps)

-- An answer was put into the mail of a seat that is now to be woken.
pub wakes_posted : (old new : List (List Answer)) (seat : ℕ) (answer : Answer) (w : WakeList) → length new ≡ length old
    → ((t : ℕ) → t < length old → slice_index_or new t [] ≡ slice_index_or old t [] ++ answers_to t ((seat, answer) ∷ []))
    → Wakes old new w (to_wake seat w)
wakes_posted old new seat answer w many put = record {
  seats = grind arith;
  kept = grind (arith, common_steps);
  mail = λ t below empty. elim (eqb_tells seat t) [
    | inl same ↦ inr (subst (λ n. 0 < times n (to_wake seat w).waiting) same.1 (waits_now seat w (omega (arith, same.1, below))))
    | inr differs ↦ grind (arith, cases_lt t (length old), put t, get_or_past new t [])
  ];
}

nothing_left : (xs ys : List Answer) → xs ++ ys ≡ [] → ys ≡ []
nothing_left [] ys e = e
nothing_left (x ∷ xs) ys e = absurd cc

-- A seat took the first answer of its mail, or there was none.
pub wakes_taken : (mails : List (List Answer)) (i : ℕ) (old rest taken : List Answer) (w : WakeList) → i < length mails
    → old ≡ slice_index_or mails i old → old ≡ taken ++ rest → Wakes mails (slice_set mails i rest) w w
wakes_taken mails i old rest taken w below at is = record {
  seats = refl;
  kept = λ t. omega arith;
  mail = λ t there empty. inl (elim (eqb_tells i t) [
    | inl same ↦
        let was : taken ++ rest ≡ [] =
        sym is ∙ at ∙ get_or_default mails i old [] below ∙ ap (λ n. slice_index_or mails n []) same.1 ∙ empty in
        ap (λ n. slice_index_or (slice_set mails i rest) n []) (sym same.1) ∙ get_or-set_same mails i rest [] below
        ∙ nothing_left taken rest was
    | inr differs ↦ get_or-set_other mails i t rest [] (λ e. differs.1 (sym e)) ∙ empty
  ]);
}

-- The same after an answer was taken out to be put into a mail: `next` and `mid` are what was before.
pub wakes_put : (first mails next last : List (List Answer)) (old w mid new : WakeList) (seat : ℕ) (answer : Answer)
    → Wakes first mails old w → next ≡ mails → mid ≡ w → length last ≡ length next
    → ((t : ℕ) → t < length next → slice_index_or last t [] ≡ slice_index_or next t [] ++ answers_to t ((seat, answer) ∷ []))
    → new ≡ to_wake seat mid → Wakes first last old new
wakes_put first mails next last old w mid new seat answer so_far same still many put wake_queue =
    wakes_then first next last old mid new (rw (same, still) so_far) (rw wake_queue (wakes_posted next last seat answer mid many put))

pub wakes_full : (first mails next last : List (List Answer)) (old w mid new : WakeList) (seat : ℕ)
    → Wakes first mails old w → next ≡ mails → mid ≡ w → last ≡ next → new ≡ to_wake seat mid → Wakes first last old new
wakes_full first mails next last old w mid new seat so_far same still kept wake_queue =
    wakes_then first next last old mid new (rw (same, still) so_far) (rw (kept, wake_queue) (wakes_added next seat mid))

-- An answer went from those that are pending into the mail of its seat.
pub delivered_put : (first mid next : MailState) (pending : List GivenAnswer) (delivered : Bool) (mails : List (List Answer)) (seat : ℕ)
    (answer : Answer) → OnlyDelivers first mid → next ≡ record mid { pending = pending; delivered = delivered }
    → mid.pending ≡ (seat, answer) ∷ next.pending → length mails ≡ length next.mails
    → ((t : ℕ) → t < length next.mails → slice_index_or mails t [] ≡ slice_index_or next.mails t [] ++ answers_to t ((seat, answer) ∷ []))
    → OnlyDelivers first (record next { mails = mails })
delivered_put first mid next pending delivered mails seat answer s moved oldest many put = grind (arith, append_assoc)
