-- How the chain of the free numbers changes.
use Rattle.std.proofs.lemmas.Grind.{common_steps}
use Rattle.std.proofs.Common.{◌≡◌, ◌≤◌, ◌<◌, ℕ, suc, zero, true, false, List, [], ◌∷◌, length, get_or, set, rules}
use Rattle.std.proofs.Common.{Option, Some, None, arith, map, refl, sym, ap, ◌∙◌}
use Rattle.std.specs.Prelude.{◌==◌, ◌++◌, IfOk, OnErr, OnOk, Result, option_map, slice_get}
use Rattle.bq_jobs.specs.Table.{changed_at, put_value}
use Rattle.std.proofs.lemmas.Bool.{eq-eqb, eqb-true}
use Rattle.std.proofs.lemmas.Bool.Decides.{nat_tests}
use Rattle.std.proofs.lemmas.List.{get_or_past, get_or-set_other, get_or-set_same, length-map, map-set}
use Rattle.bq_job.specs.declared.NoMemory.{NoMemory}
use Rattle.bq_jobs.specs.FreeNumbers.{AreAllUsed, AreChained, AreFreeFrom, IsChain, SlotState, is_in, names_in, nexts_in, values_in}
use Rattle.bq_jobs.specs.Numbering.{IsGiven, Numbering, name_of, put_at}
use Rattle.bq_jobs.proofs.NumberingLemmas.{flip, length_put, put_at_end, put_is_set, put_other, put_same}

apart : (a b : ℕ) → (a == b) ≡ false → a ≡ b → ⊥
apart a b e is = let t = eq-eqb a b is in cc

-- a number of a chain that is not its first one
later : (m n : ℕ) (chain : List ℕ) → is_in m (n ∷ chain) ≡ true → (m == n) ≡ false → is_in m chain ≡ true
later m n chain is e = rw e at is

module _ (names : List (Option (List ℕ))) (nexts : List ℕ) where
  member_free : (chain : List ℕ) (head n : ℕ) → IsChain names nexts head chain → is_in n chain ≡ true → get_or names n None ≡ None
  member_free [] head n linked is = absurd (let e : false ≡ true = is in cc)
  member_free (m ∷ chain) head n linked is = grind (arith, eqb-true n m, member_free chain (get_or nexts m 0) n linked.4)

-- A change at another number keeps a chain.
module _ (names last : List (Option (List ℕ))) (nexts after : List ℕ) (m : ℕ) (many : length names ≤ length last)
    (names_stay : (n : ℕ) → (m == n) ≡ false → get_or last n None ≡ get_or names n None)
    (nexts_stay : (n : ℕ) → (m == n) ≡ false → get_or after n 0 ≡ get_or nexts n 0) where
  chain_kept : (chain : List ℕ) (head : ℕ) → is_in m chain ≡ false → IsChain names nexts head chain → IsChain last after head chain
  chain_kept [] head out linked = tt
  chain_kept (n ∷ chain) head out linked = grind (arith, names_stay n, nexts_stay n, chain_kept chain (get_or nexts n 0))

module _ (names : List (Option (List ℕ))) (nexts : List ℕ) (head : ℕ) (c : AreChained names nexts head) where
  -- If the first number is not free, none is.
  pub all_used : (head < length names → get_or names head None ≡ None → ⊥) → AreAllUsed names
  all_used used = of c.chain c.linked c.whole
    where
      of : (chain : List ℕ) → IsChain names nexts head chain
          → ((n : ℕ) → n < length names → get_or names n None ≡ None → is_in n chain ≡ true)
          → AreAllUsed names
      of [] linked whole n less = grind (arith, whole n less)
      of (m ∷ chain) linked whole n less = absurd (used (rw linked.0 linked.1) (rw linked.0 linked.2))

  -- The first number was given to a tube.
  pub first_given : (name : List ℕ) (y : ℕ) → head < length names → get_or names head None ≡ None
      → AreChained (put_at names head (Some name)) (set nexts head y) (get_or nexts head 0)
  first_given name y within free = of c.chain c.linked c.whole
    where
      of : (chain : List ℕ) → IsChain names nexts head chain
          → ((n : ℕ) → n < length names → get_or names n None ≡ None → is_in n chain ≡ true)
          → AreChained (put_at names head (Some name)) (set nexts head y) (get_or nexts head 0)
      of [] linked whole = grind (arith, whole head within free)
      of (m ∷ chain) linked whole = record {
        chain = chain;
        linked = chain_kept names (put_at names head (Some name)) nexts (set nexts head y) head
            (grind (arith, length_put (Some name) names head within))
            (λ n e. put_other (Some name) names head n e)
            (λ n e. get_or-set_other nexts head n y 0 (λ is. apart head n e (sym is)))
            chain (get_or nexts head 0) (rw linked.0 linked.3) (rw linked.0 linked.4);
        whole = λ n less none. grind (
          arith,
          put_same (Some name) names head,
          put_other (Some name) names head n,
          flip n head,
          nat_tests,
          length_put (Some name) names head within,
          whole n,
          linked.0,
        );
      }

  -- A number is free again, and is the first now.
  pub freed_first : (m : ℕ) (name : List ℕ) → m < length names → length nexts ≡ length names → get_or names m None ≡ Some name
      → AreChained (put_at names m None) (set nexts m head) m
  freed_first m name within as_many own = record {
    chain = m ∷ c.chain;
    linked = (
      refl,
      grind (arith, length_put None names m within),
      put_same None names m,
      out,
      rw (get_or-set_same nexts m head 0 (omega (arith, within, as_many)))
          (chain_kept names (put_at names m None) nexts (set nexts m head) m (grind (arith, length_put None names m within))
          (λ n e. put_other None names m n e)
          (λ n e. get_or-set_other nexts m n head 0 (λ is. apart m n e (sym is)))
          c.chain head out c.linked),
    );
    whole = λ n less none. grind (arith, put_other None names m n, flip n m, length_put None names m within, c.whole n);
  }
    where
      out : is_in m c.chain ≡ false
      out = grind (arith, member_free)

module _ {V : Type 0} where
  pub names_many : (slots : List (SlotState V)) → length (names_in slots) ≡ length slots
  names_many slots = length-map slots (λ (s : SlotState V). s.name)

  pub nexts_many : (slots : List (SlotState V)) → length (nexts_in slots) ≡ length slots
  nexts_many slots = length-map slots (λ (s : SlotState V). s.next)

  pub names_pushed : (slots : List (SlotState V)) (s : SlotState V) → names_in (slots ++ s ∷ []) ≡ names_in slots ++ s.name ∷ []
  names_pushed slots s = grind (arith, common_steps)

  -- A slot was replaced.
  module _ (slots : List (SlotState V)) (n : ℕ) (s : SlotState V) (within : n < length slots) where
    pub names_changed : names_in (set slots n s) ≡ put_at (names_in slots) n s.name
    names_changed = grind (arith, map-set, put_is_set, names_many)

    pub nexts_changed : nexts_in (set slots n s) ≡ set (nexts_in slots) n s.next
    nexts_changed = map-set (λ (t : SlotState V). t.next) slots n s

  -- the name in the slot of a number
  pub name_at : (slots : List (SlotState V)) (n : ℕ) (s : SlotState V) → n < length slots → s ≡ get_or slots n s
      → get_or (names_in slots) n None ≡ s.name
  name_at slots n s within is = grind (arith, common_steps)

  -- A number that has a name has a slot.
  pub has_place : (k : Numbering) (slots : List (SlotState V)) (n : ℕ) (name : List ℕ) → k.names ≡ names_in slots → name_of n k ≡ Some name
      → n < length slots
  has_place k slots n name names own = grind (arith, common_steps)

  -- The same of slots, as their calls promise it.
  module _ (slots : List (SlotState V)) (head : ℕ) (c : AreFreeFrom head slots) where
    pub slots_used : (head < length slots → get_or (names_in slots) head None ≡ None → ⊥) → AreAllUsed (names_in slots)
    slots_used used = search (rules, all_used, names_many)

    pub slot_added : (last : List (SlotState V)) (name : List ℕ) (r : Result ℕ NoMemory) → AreAllUsed (names_in slots)
        → IfOk r (λ n. IsGiven n name (names_in slots) (names_in last)) → IfOk r (λ n. n ≡ length slots)
        → OnOk r (length last ≡ suc (length slots)) → OnErr r (last ≡ slots) → AreFreeFrom head last
    slot_added last name r h3 h4 h5 h6 h7 = grind (arith, names_many, put_same, eqb-true, put_other, flip, nat_tests)

  pub values_changed : (slots : List (SlotState V)) (n : ℕ) (s : SlotState V) → n < length slots
      → values_in (set slots n s) ≡ put_value (values_in slots) n s.value
  values_changed [] n s within = absurd (omega (arith, within))
  values_changed (t ∷ slots) zero s within = refl
  values_changed (t ∷ slots) (suc n) s within = ap (λ vs. t.value ∷ vs) (values_changed slots n s (omega (arith, within)))

  pub values_pushed : (slots : List (SlotState V)) (s : SlotState V)
      → values_in (slots ++ s ∷ []) ≡ put_value (values_in slots) (length slots) s.value
  values_pushed [] s = refl
  values_pushed (t ∷ slots) s = ap (λ vs. t.value ∷ vs) (values_pushed slots s)

  pub value_of_slot : (slots : List (SlotState V)) (n : ℕ) → slice_get (values_in slots) n ≡ option_map (λ s. s.value) (slice_get slots n)
  value_of_slot [] n = refl
  value_of_slot (s ∷ slots) zero = refl
  value_of_slot (s ∷ slots) (suc n) = value_of_slot slots n

  -- What is the same in a slot that was replaced is the same in the list,
  pub slots_alike : {B : Type 0} (q : SlotState V → B) (slots : List (SlotState V)) (n : ℕ) (s t : SlotState V) → s ≡ get_or slots n s
      → q t ≡ q s → map q (set slots n t) ≡ map q slots
  slots_alike q [] n s t own same = refl
  slots_alike q (u ∷ slots) zero s t own same = ap (λ b. b ∷ map q slots) (same ∙ ap q own)
  slots_alike q (u ∷ slots) (suc n) s t own same = ap (λ bs. q u ∷ bs) (slots_alike q slots n s t own same)

  -- and its value is changed there.
  pub values_edited : (f : V → V) (slots : List (SlotState V)) (n : ℕ) (s t : SlotState V) → s ≡ get_or slots n s → t.value ≡ f s.value
      → values_in (set slots n t) ≡ changed_at f n (values_in slots)
  values_edited f [] n s t own is = refl
  values_edited f (u ∷ slots) zero s t own is = ap (λ v. v ∷ values_in slots) (is ∙ ap (λ (r : SlotState V). f r.value) own)
  values_edited f (u ∷ slots) (suc n) s t own is = ap (λ vs. u.value ∷ vs) (values_edited f slots n s t own is)

-- what the search takes for a slot that is added
pub ruleset pushed = (length-map, names_pushed, get_or_past, put_at_end, values_pushed)
