-- What turns know when a loop waits, and after the system has reported something.
use Rattle.std.proofs.Common.{ℕ, ◌≡◌, inl, inr, ◌<◌, Bool, true, List, [], slice_index_or}
use Rattle.std.proofs.Common.{arith}
use Rattle.std.proofs.lemmas.Bool.Decides.{eqb_tells}
use Rattle.bq_job.specs.declared.answer.Answer.{Answer}
use Rattle.bq_line.specs.declared.attendant.Attendant.{Attendant}
use Rattle.bq_line.specs.declared.attendant.SeatPhase.TheVariants as phases
use Rattle.bq_event_loop.specs.Meanings.{Line}
use Rattle.bq_event_loop.specs.Known.{AreApart, AreKnown, ChangesOnly, KeepsAll}

-- The turns heard of a seat that the system reported.
pub known_reported : {L : Type 0} {line : Line L} {many later_many : ℕ} {listed tries later later_tries : ℕ → Bool} {i : ℕ}
    {seats after : List (Attendant L)} {mails : List (List Answer)}
    → later_many ≡ many → (i < many → (tries i ≡ true → ⊥) → later i ≡ true) → KeepsAll listed later
    → ((t : ℕ) → later_tries t ≡ tries t) → (AreApart listed tries → AreApart later later_tries) → ChangesOnly i seats after
    → ((a : Attendant L) → (slice_index_or seats i a).phase ≡ phases.Between → (slice_index_or after i a).phase ≡ phases.Between)
    → AreKnown line many listed tries [] seats mails → AreKnown line later_many later later_tries [] after mails
known_reported {L} {line} {many} {later_many} {listed} {tries} {later} {later_tries} {i} {seats} {after} {mails} same told
    keeps checks apart only between k =
    record {
      all = omega (arith, same, only.many, k.all);
      apart = apart k.apart;
      trying = λ t below is a. elim (eqb_tells t i) [ inl x ↦ grind arith | inr x ↦ grind arith ];
      known = λ t below a. elim (eqb_tells t i) [ inl x ↦ grind arith | inr x ↦ grind arith ];
    }
