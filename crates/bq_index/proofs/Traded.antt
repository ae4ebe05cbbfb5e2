-- A box that loses its own entry to the box of a removal.
use Rattle.std.proofs.Common.{◌≡◌, arith}
use Rattle.std.specs.Prelude.{Bool}
use Rattle.bq_index.specs.Tree.{height_in, height_of, left_in}
use Rattle.bq_index.specs.Tree.{IsLevel, IsWithoutFirst, LosesEntry}
use Rattle.bq_index.specs.declared.tree.Node.{Node}

module _ {K V : Type 0} where
  -- if its left side is empty, a box that loses its own entry loses its first
  pub first_traded : (old new first : Node K V) (c : Bool) → IsLevel old → height_of (left_in old) ≡ 0 → LosesEntry old new first c
      → IsLevel first → height_in first ≡ 1 → IsWithoutFirst old new first c
  first_traded old new first c level none w first_level alone = grind arith
