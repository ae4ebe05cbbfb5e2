-- If no reference to a body is refused, a step has one result.
use Rattle.std.proofs.Common.{ℕ, ◌≡◌, Bool, false, List, [], ◌∷◌, refl, sym, ap, ◌∙◌, subst, None, arith}
use Rattle.std.proofs.lemmas.{Bool.or_parts, Grind.common_steps}
use Rattle.std.specs.List.{list_any}
use Rattle.bq_job.specs.machine.{Chain, DispatchTurn, GivenAnswer, IsStep, Machine.Machine, Outcome}
use Rattle.bq_job.specs.machine.{Serves, WaitEndTurn, acted, after_timers, at_moment, forgetting}
use Rattle.bq_job.specs.machine.{has_refused_share, is_out_of_memory, is_share_refused, next_end}
use Rattle.bq_job.specs.{beside.{ample, stepped}, machine.next_job, Types.Step}
use Rattle.bq_job.proofs.ListLemmas.{all_always, list_any_not}
use Rattle.bq_job.proofs.{ComputedRunLemmas.stepped_is_step, DispatchLemmas.turn_of, LawfulLemmas.end_of}

-- Two chains of turns that go on until no turn is possible are equal.
module _ (Turns : Machine → GivenAnswer → Machine → Type 0) (fine : GivenAnswer → Bool) (Done : Machine → Type 0)
    (one : (m : Machine) (g h : GivenAnswer) (n o : Machine) → fine g ≡ false → fine h ≡ false → Turns m g n → Turns m h o
    → (g ≡ h) × (n ≡ o))
    (none : (m : Machine) (g : GivenAnswer) (n : Machine) → Done m → Turns m g n → ⊥) where
  chain_one : (first : Machine) (xs ys : List GivenAnswer) (last end : Machine) → list_any fine xs ≡ false → list_any fine ys ≡ false
      → Done last → Done end → Chain Turns first xs last → Chain Turns first ys end → (xs ≡ ys) × (last ≡ end)
  chain_one first [] [] last end e f d c a b = (refl, a ∙ sym b)
  chain_one first [] (y ∷ ys) last end e f d c a b = absurd (none first y b.0 (subst Done a d) b.1)
  chain_one first (x ∷ xs) [] last end e f d c a b = absurd (none first x a.0 (subst Done b c) a.1)
  chain_one first (x ∷ xs) (y ∷ ys) last end e f d c a b = grind (arith, or_parts, chain_one a.0 xs ys last end)

-- the results of dispatch and of the ends of waits
serves_one : (first : Machine) (xs ys zs ws : List GivenAnswer) (last other : Machine) → has_refused_share xs ≡ false
    → has_refused_share zs ≡ false → Serves first xs ys last → Serves first zs ws other → (xs ≡ zs) × (ys ≡ ws) × (last ≡ other)
serves_one first xs ys zs ws last other e f a b =
    let d = chain_one DispatchTurn (λ g. is_out_of_memory g.1) (λ m. next_job m ≡ None)
    (λ m g h n o e f x y. grind (arith, common_steps, turn_of)) (λ m g n e turn. grind (arith, turn_of)) first xs zs
    a.dispatches.end b.dispatches.end e f a.dispatches.done b.dispatches.done a.dispatches.turns b.dispatches.turns in
    let between : a.between ≡ b.between = a.dispatches.forgets ∙ ap forgetting d.1 ∙ sym b.dispatches.forgets in
    let turns : Chain WaitEndTurn a.between ws b.ends_waits.end =
    subst (λ (m : Machine). Chain WaitEndTurn m ws b.ends_waits.end) (sym between) b.ends_waits.turns in
    let fine = λ (given : List GivenAnswer). list_any_not (λ g. false) given (all_always _ given (λ g. refl)) in
    let w = chain_one WaitEndTurn (λ g. false) (λ m. next_end m ≡ None) (λ m g h n o e f x y. grind (arith, common_steps, end_of))
    (λ m g n e turn. grind (arith, end_of)) a.between ys ws a.ends_waits.end b.ends_waits.end (fine ys) (fine ws)
    a.ends_waits.done b.ends_waits.done a.ends_waits.turns turns in
    (d.0, w.0, a.ends_waits.forgets ∙ ap forgetting w.1 ∙ sym b.ends_waits.forgets)

pub one_result : (first last other : Machine) (at seat : ℕ) (what : Step) (outcome : Outcome) (given others : List GivenAnswer)
    → outcome.unshared ≡ false → IsStep first at seat what outcome given last → IsStep first at seat what outcome others other
    → (given ≡ others) × (last ≡ other)
one_result first last other at seat what outcome given others shared a b =
    let p : (is_share_refused a.memory ≡ false) × (has_refused_share a.handed ≡ false) × (has_refused_share a.handed_then ≡ false) =
    grind (arith, common_steps, or_parts) in
    let q : (is_share_refused b.memory ≡ false) × (has_refused_share b.handed ≡ false) × (has_refused_share b.handed_then ≡ false) =
    grind (arith, common_steps, or_parts) in
    let memory : a.memory ≡ b.memory = grind (arith, common_steps) in
    let one = serves_one (forgetting (after_timers (at_moment at first))) a.handed a.ended b.handed b.ended a.before b.before p.1 q.1
    a.serves b.serves in
    let act : acted a.memory a.before seat what ≡ acted b.memory b.before seat what = rw (memory, one.2) refl in
    let after : a.after ≡ b.after = a.acts ∙ rw act (sym b.acts) in
    let two = serves_one a.after a.handed_then a.ended_then b.handed_then b.ended_then last other p.2 q.2 a.serves_then
    (rw after b.serves_then) in
    (a.answers_are ∙ rw (one.0, one.1, act, two.0, two.1) refl ∙ sym b.answers_are, two.2)

pub computed_result : (first last : Machine) (at seat : ℕ) (what : Step) (given : List GivenAnswer)
    → IsStep first at seat what ample given last
    → (given ≡ (stepped first at seat what).given) × (last ≡ (stepped first at seat what).machine)
computed_result first last at seat what given s =
    one_result first last (stepped first at seat what).machine at seat what ample given (stepped first at seat what).given refl s
    (stepped_is_step first at seat what)
