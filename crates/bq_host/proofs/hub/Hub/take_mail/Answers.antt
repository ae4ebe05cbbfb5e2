use Rattle.std.proofs.Common.{[], arith, rules}
use Rattle.bq_host.specs.Hubs.{state_of}
use Rattle.bq_host.proofs.{MailLemmas.{seat_takes}, TimedRunLemmas.gave_none}
use Rattle.bq_host.proofs.WakeLemmas.{wakes_taken}
use Rattle.bq_host.proofs.hub.Hub.take_mail.Goals as goal

pub returns-clause-trace : goal.returns-clause-trace
returns-clause-trace g c = (
  search rules,
  (
    (
      [],
      gave_none g.C.Clock.given c.args.self.now.timed.time.clock,
      seat_takes (state_of g.K.QueueCore c.args.self.now) c.args.seat c.from.result c.index_mut.result.now c.take_first.new.self _
          c.from.ensures (let e = c.from.ensures in let b = c.requires.ready.1 in
          omega arith) c.index_mut.ensures.value c.take_first.ensures.oldest,
    ),
    wakes_taken c.args.self.now.mails.items c.from.result c.index_mut.result.now c.take_first.new.self _ c.args.self.now.wake_queue
        (let e = c.from.ensures in let b = c.requires.ready.1 in
        omega arith) c.index_mut.ensures.value c.take_first.ensures.oldest,
  ),
)
