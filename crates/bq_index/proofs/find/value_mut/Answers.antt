use Rattle.std.proofs.Common.{rules, refl, ◌≡◌}
use Rattle.bq_index.proofs.find.value_mut.Goals as goal

pub returns-in-Fork : goal.returns-in-Fork
returns-in-Fork g c =
    let e : c.deref_mut.result.now ≡ c.in-Fork.node.value = search (rules, c.in-Fork.is) in
    rw c.in-Fork.is (rw e refl, record { writes_back = tt; value = search rules; counted = search rules })
