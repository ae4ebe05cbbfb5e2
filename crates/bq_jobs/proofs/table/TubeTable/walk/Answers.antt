use Rattle.std.proofs.Common.{◌∙◌, List, ap, fold, refl, ℕ}
use Rattle.std.specs.Prelude.{slice_get}
use Rattle.bq_index.specs.Walk.{seen_by}
use Rattle.bq_jobs.specs.FreeNumbers.{values_in}
use Rattle.bq_jobs.specs.Table.{visited}
use Rattle.bq_jobs.specs.declared.table.Shown.{Shown}
use Rattle.bq_jobs.proofs.TableWalks.{seen_is, walk_valued}
use Rattle.bq_jobs.proofs.table.TubeTable.walk.Goals as goal

pub returns-clause-visitor : goal.returns-clause-visitor
returns-clause-visitor g c =
    let vs = values_in c.as_slice.result.now in
    let after = g.T.Visitor.after in
    let make : g.row.T.Denot → Shown g.row.V.Denot g.row.T.Denot = λ t. record { slots = c.as_slice.result; visitor = t } in
    let step : Shown g.row.V.Denot g.row.T.Denot → List ℕ → ℕ → Shown g.row.V.Denot g.row.T.Denot =
    λ s name n. record s { visitor = visited after s.visitor name (slice_get (values_in s.slots.now) n) } in
    ap (λ (s : Shown g.row.V.Denot g.row.T.Denot). s.visitor) (c.walk.ensures.visitor
    ∙ walk_valued vs after make step (λ t name n. refl) c.self.inside.numbers.entries c.args.visitor)
    ∙ ap (fold (seen_by after) c.args.visitor) (seen_is c.self.inside.numbers.entries _ _ _ c.as_slice.ensures.value c.self.view_is)
