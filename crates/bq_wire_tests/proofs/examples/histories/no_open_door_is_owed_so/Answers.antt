use Rattle.bq_wire_tests.proofs.HistoryLemmas.{not_closed_later}
use Rattle.bq_wire_tests.proofs.examples.histories.no_open_door_is_owed_so.Goals as goal

pub returns : goal.returns
returns c = record { answered_by_a_later_close = not_closed_later }
