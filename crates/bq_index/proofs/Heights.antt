-- The height of a box that lost its left side, which was the lower one.
use Rattle.std.proofs.Common.{◌≡◌, not, Bool, None, arith}
use Rattle.bq_index.specs.Tree.{height_in, height_of, left_in, right_in, differ, IsMended}
use Rattle.bq_index.specs.declared.tree.Node.{Node}

pub falls_right : {K V : Type 0} (n m : Node K V) (c : Bool) → left_in n ≡ None → height_of (right_in n) ≡ 2 → IsMended n m c
    → not c ≡ differ 3 (height_in m)
falls_right n m c h3 h4 h5 = grind arith
