use Rattle.std.proofs.Common.{◌∙◌, ◌≡◌, IfOk, ap, filter, map, subst}
use Rattle.std.specs.Map.{keys_of}
use Rattle.std.specs.Prelude.{slice_get}
use Rattle.bq_index.specs.Walk.{entry_of, passes_by}
use Rattle.bq_jobs.specs.FreeNumbers.{values_in}
use Rattle.bq_jobs.specs.Table.{passes_if}
use Rattle.bq_jobs.proofs.TableWalks.{keys_valued, seen_is}
use Rattle.bq_jobs.proofs.table.TubeTable.names_passing.Goals as goal

pub returns : goal.returns
returns g c =
    let vs = values_in c.as_slice-slots.result.now in
    let passed = g.T.Test.passed c.args.test.now in
    let listed = ap (map entry_of) c.as_slice.ensures.value ∙ c.in-Ok.ensures in
    let names = ap (λ ps. keys_of (filter (passes_by (λ name n. passes_if (passed name) (slice_get vs n))) ps)) listed
    ∙ keys_valued vs passed c.self.inside.numbers.entries
    ∙ ap (λ es. keys_of (filter (passes_by passed) es))
    (seen_is c.self.inside.numbers.entries _ _ _ c.as_slice-slots.ensures.value c.self.view_is) in
    subst (λ list. IfOk c.list_passing.result (λ names. map (λ n. n.now) names.items ≡ list)) names c.list_passing.ensures
