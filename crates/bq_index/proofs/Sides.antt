-- On which side of a box something is, by what is on its sides.
use Rattle.std.proofs.Common.{None, Option, Some, refl, ◌≡◌}
use Rattle.bq_index.specs.Tree.{height_of, near_of}
use Rattle.bq_index.specs.declared.{tree.Node.Node, tree.Side.{Side, TheVariants.{Left, Right}}}

module _ {K V : Type 0} where
  pub free_on_right : (side : Side) (l : Node K V) → near_of side (Some l) None ≡ None → side ≡ Right
  free_on_right Left l h = absurd cc
  free_on_right Right l h = refl

  pub free_on_left : (side : Side) (r : Node K V) → near_of side None (Some r) ≡ None → side ≡ Left
  free_on_left Left r h = refl
  free_on_left Right r h = absurd cc

  pub single_on_left : (side : Side) (o : Option (Node K V)) → height_of (near_of side o None) ≡ 1 → side ≡ Left
  single_on_left Left o h = refl
  single_on_left Right o h = absurd cc

  pub single_on_right : (side : Side) (o : Option (Node K V)) → height_of (near_of side None o) ≡ 1 → side ≡ Right
  single_on_right Left o h = absurd cc
  single_on_right Right o h = refl
