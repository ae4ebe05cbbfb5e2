use Rattle.std.proofs.Common.{◌∙◌, Some, None, refl, sym, arith}
use Rattle.bq_jobs.specs.Table.{numbering_of}
use Rattle.bq_jobs.proofs.FreeLemmas.{freed_first, has_place, names_many, nexts_many}
use Rattle.bq_jobs.proofs.NumberingLemmas.{removed_to}
use Rattle.bq_jobs.proofs.table.TubeTable.remove.Goals as goal

pub release-requires : goal.release-requires
release-requires g c = has_place (numbering_of c.self.inside.numbers.entries c.self.inside.slots.items) _ _ _ refl
    (c.self.invariant.0.there c.args.name.now c.in-Some.number (sym c.remove.ensures.value ∙ c.in-Some.is))

pub returns-in_default-clause-paired : goal.returns-in_default-clause-paired
returns-in_default-clause-paired g c =
    removed_to _ _ c.args.name.now None c.self.invariant.0 (sym c.remove.ensures.value ∙ c.in_default.is) c.remove.ensures.entries refl

pub invariant_of-self : goal.invariant_of-self
invariant_of-self g c = (returns-in_default-clause-paired g c, c.self.invariant.1)

pub returns-clause-paired : goal.returns-clause-paired
returns-clause-paired g c =
    removed_to _ _ c.args.name.now (Some c.in-Some.number) c.self.invariant.0 (sym c.remove.ensures.value ∙ c.in-Some.is)
    c.remove.ensures.entries c.release.ensures.names

pub invariant_of-self-2 : goal.invariant_of-self-2
invariant_of-self-2 g c =
    let own = c.self.invariant.0.there c.args.name.now c.in-Some.number (sym c.remove.ensures.value ∙ c.in-Some.is) in
    let within = has_place (numbering_of c.self.inside.numbers.entries c.self.inside.slots.items) c.self.inside.slots.items _ _ refl own in
    let paired = returns-clause-paired g c in
    grind (arith, freed_first, names_many, nexts_many)
