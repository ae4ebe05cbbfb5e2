use Rattle.std.proofs.Common.{rules, ◌≡◌, ap, ◌∙◌}
use Rattle.std.specs.BTreeMap.{is_at}
use Rattle.bq_index.specs.Edited.{edited_at, edited_by}
use Rattle.bq_index.specs.Order.{InOrder}
use Rattle.bq_index.specs.Tree.{entries, entries_in, IsLevel}
use Rattle.bq_index.proofs.Edited.{edited_entries}
use Rattle.bq_index.proofs.edit.edit_tree.Goals as goal

pub returns-in-Fork-clause-is : goal.returns-in-Fork-clause-is
returns-in-Fork-clause-is g c =
    let b : IsLevel c.deref_mut.result.now = search rules in
    let d : InOrder g.K.Ord.cmp (entries_in c.deref_mut.result.now) = search rules in
    let same : entries_in c.deref_mut.result.now ≡ entries c.args.tree.now = search rules in
    let test = is_at (g.K.Ord.cmp c.args.key.now) in
    let f = edited_by (g.E.TryEdit.edited c.args.edit.now) c.edit_below.new.told in
    rw c.edit_below.ensures.is (edited_entries g.met.K.Ord.total c.args.key.now f c.deref_mut.result.now b d ∙ ap (edited_at test f) same)
