-- What a walk over entries does.
use Rattle.std.specs.Borrow.{Bor}
use Rattle.std.specs.Ordering.{is_gt}
use Rattle.std.specs.Prelude.{Bool, ◌&&◌, not}
use Rattle.std.specs.declared.cmp.Ordering.{Ordering}

module _ {K V : Type 0} where
  -- a visitor's state after it saw the entry e
  abbrev pub seen_by : {T : Type 0} → (T → K → V → T) → T → K × V → T
  seen_by after t e = after t e.0 e.1

  -- the entry that a loan of its key and its value shows
  abbrev pub entry_of : Bor K × Bor V → K × V
  entry_of p = (p.0.now, p.1.now)

  -- whether e passes the test
  abbrev pub passes_by : (K → V → Bool) → K × V → Bool
  passes_by p e = p e.0 e.1

  -- whether e passes the test and its key is not below the key that is compared
  abbrev pub passes_from : (K → Ordering) → (K → V → Bool) → K × V → Bool
  passes_from compare p e = not (is_gt (compare e.0)) && p e.0 e.1
