-- A value for each registered tube.
use Rattle.std.specs.Option.{option_map}
use Rattle.std.specs.Prelude.{ℕ, zero, suc, Bool, false, List, [], ◌∷◌, Option, None, Some, slice_get}
use Rattle.bq_jobs.specs.FreeNumbers.{SlotState, names_in, values_in}
use Rattle.bq_jobs.specs.Numbering.{Numbering}

-- the values in the order of the names of their tubes, and the numbers of the tubes
pub record Tabled (V : Type 0) : Type 0 where
  pub entries : List (List ℕ × V)
  pub tubes : Numbering

module _ {V : Type 0} where
  -- the entries with one before them, if there is a value for it
  abbrev pub with_value : List ℕ → Option V → List (List ℕ × V) → List (List ℕ × V)
  with_value name None es = es
  with_value name (Some v) es = (name, v) ∷ es

  -- the tubes with the values at their numbers
  abbrev pub entries_at : List (List ℕ × ℕ) → List V → List (List ℕ × V)
  entries_at [] vs = []
  entries_at (p ∷ ps) vs = with_value p.0 (slice_get vs p.1) (entries_at ps vs)

  -- the values with the one at number n changed by f
  abbrev pub changed_at : (V → V) → ℕ → List V → List V
  changed_at f n [] = []
  changed_at f zero (v ∷ vs) = f v ∷ vs
  changed_at f (suc n) (v ∷ vs) = v ∷ changed_at f n vs

  -- the values with w at number n, which is one of theirs or the next one
  abbrev pub put_value : List V → ℕ → V → List V
  put_value [] n w = w ∷ []
  put_value (v ∷ vs) zero w = w ∷ vs
  put_value (v ∷ vs) (suc n) w = v ∷ put_value vs n w

  -- a visitor's state after it saw a tube with this value, if there is one
  abbrev pub visited : {T : Type 0} → (T → List ℕ → V → T) → T → List ℕ → Option V → T
  visited after t name None = t
  visited after t name (Some v) = after t name v

  -- whether there is a value and it passes the test
  abbrev pub passes_if : (V → Bool) → Option V → Bool
  passes_if p None = false
  passes_if p (Some v) = p v

  -- a tube with the value at its number
  abbrev pub valued_in : List V → List ℕ × ℕ → Option (List ℕ × V)
  valued_in vs p = option_map (λ v. (p.0, v)) (slice_get vs p.1)

  -- what a contract sees of a table, from the numbers of the names and the slots of the numbers
  abbrev pub numbering_of : List (List ℕ × ℕ) → List (SlotState V) → Numbering
  numbering_of numbers slots = record { numbers = numbers; names = names_in slots }

  abbrev pub table_seen : List (List ℕ × ℕ) → List (SlotState V) → Tabled V
  table_seen numbers slots = record { entries = entries_at numbers (values_in slots); tubes = numbering_of numbers slots }
