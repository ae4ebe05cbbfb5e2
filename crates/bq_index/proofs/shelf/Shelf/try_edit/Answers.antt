use Rattle.std.proofs.Common.{length, sym, ap, ◌∙◌, subst}
use Rattle.std.specs.BTreeMap.{is_at}
use Rattle.std.specs.List.Sorted.{IsStrictlySortedBy}
use Rattle.bq_index.proofs.Edited.{edited_keys, edited_length}
use Rattle.bq_index.specs.Edited.{edited_at, edited_by}
use Rattle.bq_index.specs.Order.{InOrder}
use Rattle.bq_index.specs.Shelf.{Seen}
use Rattle.bq_index.specs.Tree.{entries}
use Rattle.bq_index.proofs.shelf.Shelf.try_edit.Goals as goal

pub invariant_of-self : goal.invariant_of-self
invariant_of-self g c =
    let w = c.self.invariant in
    let test = is_at (g.K.Ord.cmp c.args.key.now) in
    let f = edited_by (g.E.TryEdit.edited c.args.edit.now) c.edit_tree.result in
    record {
      balanced = c.edit_tree.ensures.balanced;
      in_order = subst (InOrder g.K.Ord.cmp) (sym c.edit_tree.ensures.is)
          (subst (IsStrictlySortedBy g.K.Ord.cmp) (sym (edited_keys test f (entries c.self.inside.tree))) w.in_order);
      counted = w.counted ∙ sym (edited_length test f (entries c.self.inside.tree)) ∙ sym (ap length c.edit_tree.ensures.is);
      fits = w.fits;
    }

pub returns-clause-entries : goal.returns-clause-entries
returns-clause-entries g c =
    let f = edited_by (g.E.TryEdit.edited c.args.edit.now) c.edit_tree.result in
    c.edit_tree.ensures.is
    ∙ ap (λ (s : Seen g.row.K.Denot g.row.V.Denot). edited_at (is_at (g.K.Ord.cmp c.args.key.now)) f s.entries) c.self.view_is
