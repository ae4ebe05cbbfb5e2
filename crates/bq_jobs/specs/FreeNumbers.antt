-- The numbers of tubes that are free.
use Rattle.std.specs.Prelude.{ℕ, ◌≡◌, ◌<◌, ◌==◌, Bool, true, false, if◌then◌else◌, List, [], ◌∷◌, Option, None}
use Rattle.std.specs.Prelude.{get_or, is_some, length, map}

-- the place of a number: the name of its tube, if the number is in use; another number; and the tube's value
pub record SlotState (V : Type 0) : Type 0 where
  pub name : Option (List ℕ)
  pub next : ℕ
  pub value : V

module _ {V : Type 0} where
  abbrev pub names_in : List (SlotState V) → List (Option (List ℕ))
  names_in slots = map (λ (s : SlotState V). s.name) slots

  abbrev pub nexts_in : List (SlotState V) → List ℕ
  nexts_in slots = map (λ (s : SlotState V). s.next) slots

  abbrev pub values_in : List (SlotState V) → List V
  values_in slots = map (λ (s : SlotState V). s.value) slots

abbrev pub is_in : ℕ → List ℕ → Bool
is_in n [] = false
is_in n (m ∷ more) = if n == m then true else is_in n more

-- Each of these numbers is free, and there once. The first is `head`, and each names the next one.
abbrev pub IsChain : List (Option (List ℕ)) → List ℕ → ℕ → List ℕ → Type 0
IsChain names nexts head [] = Unit {0}
IsChain names nexts head (n ∷ chain) =
    (head ≡ n) × (n < length names) × (get_or names n None ≡ None) × (is_in n chain ≡ false) × IsChain names nexts (get_or nexts n 0) chain

-- All free numbers are in one chain, which begins with `head`.
pub record AreChained (names : List (Option (List ℕ))) (nexts : List ℕ) (head : ℕ) : Type 0 where
  pub chain : List ℕ
  pub linked : IsChain names nexts head chain
  pub whole : (n : ℕ) → n < length names → get_or names n None ≡ None → is_in n chain ≡ true

-- the same of slots
abbrev pub AreFreeFrom : {V : Type 0} → ℕ → List (SlotState V) → Type 0
AreFreeFrom head slots = AreChained (names_in slots) (nexts_in slots) head

-- No number is free.
abbrev pub AreAllUsed : List (Option (List ℕ)) → Type 0
AreAllUsed names = (n : ℕ) → n < length names → is_some (get_or names n None) ≡ true
