-- The moment at which the first pause ends.
use Rattle.std.proofs.Common.{is_some, length, ◌&&◌}
use Rattle.bq_index.specs.Catalog.{CatalogSeen}
use Rattle.bq_job.{proofs.ListLemmas.count_none, specs.reading.TubeName.is_same_name}
use Rattle.bq_jobs.specs.{JobsSeen.JobsSeen, Table.Tabled}
use Rattle.bq_state.specs.{PauseEnds.{AreEnds, is_paused}, Store.{StoreSeen, store_seen}, TubesSeen.{EntrySeen, records}}
use Rattle.bq_state.specs.declared.tubes.pauses.PauseEnd.{PauseEnd}
use Rattle.std.proofs.{Common.{List, None, Option, [], arith, false, map, refl, sym, ℕ, ◌||◌, ◌∙◌, ◌∷◌, ◌≡◌}, lemmas.Bool.or_parts}
use Rattle.std.{proofs.lemmas.Grind.common_steps, specs.{List.list_any, Prelude.fold}}
use Rattle.bq_job.{proofs.ListLemmas.{all_of_filter, all_weaker, list_any_not, map_all_same, none_pass}, specs.machine.TubeRecord}
use Rattle.bq_job.specs.machine.{tube_after_timers}
use Rattle.bq_state.specs.{Dues.{first_pause_end, is_end_over, with_tube_due}, TubeEntries.{counted, is_pause_over}, TubesSeen.Named}
use Rattle.bq_state.specs.TubesSeen.{record_at, with_ended}

-- If the first end is not due yet, no pause is.
all_to_come : (moment : ℕ) (best : Option ℕ) (entries : List TubeRecord)
    → is_end_over moment (fold with_tube_due best entries) ≡ (is_end_over moment best || list_any (is_pause_over moment) entries)
all_to_come moment best [] = grind (arith, common_steps)
all_to_come moment best (t ∷ entries) = grind (arith, common_steps, all_to_come moment (with_tube_due best t) entries)

pub none_over : (moment : ℕ) (entries : List TubeRecord) → is_end_over moment (first_pause_end entries) ≡ false
    → list_any (is_pause_over moment) entries ≡ false
none_over moment entries h = sym (all_to_come moment None entries) ∙ h

-- no pause has ended
pub none_counted : (moment : ℕ) (entries : List TubeRecord) → list_any (is_pause_over moment) entries ≡ false
    → list_any (is_pause_over moment) (counted entries) ≡ false
none_counted moment entries h = grind (arith, list_any_not, all_weaker, all_of_filter, none_pass)

pub no_pause_ends : (moment : ℕ) (tubes : List TubeRecord) → list_any (is_pause_over moment) tubes ≡ false
    → map (tube_after_timers moment) tubes ≡ tubes
no_pause_ends moment tubes h = grind (arith, map_all_same, all_weaker, none_pass (is_pause_over moment) tubes h)

pub none_ended : (moment : ℕ) (es : List Named) → list_any (is_pause_over moment) (map record_at es) ≡ false → with_ended moment es ≡ es
none_ended moment [] h = refl
none_ended moment (e ∷ es) h = grind (arith, common_steps, or_parts, none_ended moment es)

-- If no end of a pause is kept, no tube is paused.
pub none_paused : (name : List ℕ) (kept : Tabled EntrySeen) (ends : CatalogSeen PauseEnd (Unit {0})) (rows : JobsSeen) (k : StoreSeen)
    (n : ℕ)
    → n ≡ length ends.entries → AreEnds kept ends → store_seen rows kept ≡ k → n ≡ 0
    → false ≡ list_any (λ (t : TubeRecord). is_same_name name t.name && is_some t.pause) (records k.tubes)
none_paused name kept ends rows k n len are seen none =
    grind (arith, common_steps, count_none is_paused (map record_at kept.entries), list_any_not, all_weaker)
