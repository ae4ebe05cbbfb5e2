use Rattle.std.proofs.Common.{◌∙◌}
use Rattle.bq_index.proofs.{Removed.{all_pass}, Spread.{tree_lookup}}
use Rattle.bq_index.proofs.shelves.remove_at.Goals as goal

pub returns-clause-value : goal.returns-clause-value
returns-clause-value g c = c.remove_if.ensures.value ∙ all_pass _ ∙ tree_lookup g.met.K.Ord.total g.K.Parted.part g.met.K.Parted.apart _
    c.args.trees.now.items c.requires.spread c.requires.at c.index_mut.ensures.value c.args.key.now c.requires.part
