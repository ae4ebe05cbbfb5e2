use Rattle.std.proofs.Common.{arith}
use Rattle.bq_thread_work.proofs.SendingLemmas.{sent_kept, sent_now}
use Rattle.bq_thread_work.proofs.core_work.sender.Sender.send_or_keep.Goals as goal

pub returns-then-can_send-clause-sent : goal.returns-then-can_send-clause-sent
returns-then-can_send-clause-sent c = grind (arith, sent_now)

pub returns-else-can_send-clause-sent : goal.returns-else-can_send-clause-sent
returns-else-can_send-clause-sent c = search sent_kept
