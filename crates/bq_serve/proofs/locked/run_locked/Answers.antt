use denote.Exit.{yes}
use denote.Param.Send.{arg_send, param_send}
use Rattle.bq_core.proofs.SendLemmas.{core_sends}
use Rattle.bq_serve.proofs.locked.run_locked.Goals as goal

pub run_locked-requires-send-K : goal.run_locked-requires-send-K
run_locked-requires-send-K g c κs within = param_send 5 _ (arg_send _ yes _ core_sends)
