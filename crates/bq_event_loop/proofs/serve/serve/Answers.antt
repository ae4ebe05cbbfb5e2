use Rattle.std.proofs.lemmas.Grind.{common_steps}
use Rattle.std.proofs.Common.{◌∙◌, [], arith}
use Rattle.bq_event_loop.specs.KnownTurns.{AreKnownBy}
use Rattle.bq_event_loop.specs.Serving.{AreReady, IsServing}
use Rattle.bq_event_loop.proofs.KnownLemmas.{known_after, known_at_first}
use Rattle.bq_event_loop.proofs.RowLemmas.{rested_none}
use Rattle.bq_event_loop.proofs.SoFarLemmas.{ready_first, serving_first, serving_so_far}
use Rattle.bq_event_loop.proofs.ServingLemmas.{loop_rested}
use Rattle.bq_event_loop.proofs.serve.serve.Goals as goal

pub loop-init : goal.loop-init
loop-init g c =
    let new = c.requires.new in
    let ready : AreReady g.K.QueueCore g.L.Line g.D.Door c.args.core.now c.args.row.now = ready_first new in
    let serving : IsServing g.K.QueueCore g.C.Clock g.L.Line g.D.Door g.I.ControlInput [] _ c.args.core.now c.args.row.now
    c.args.control.now =
    serving_first new g.met.C.Clock.none_given g.met.D.Door.same_self in
    let known : AreKnownBy g.L.Line g.T.Turns c.args.turns.now [] c.args.row.now.seats.items c.args.core.now.mails.items =
    known_at_first new.many new.knows new.new_seats in
    grind arith

pub take_turn-requires : goal.take_turn-requires
take_turn-requires g c = record { ready = c.loop.invariant.ready }

pub returns-then-take_turn-clause-serving : goal.returns-then-take_turn-clause-serving
returns-then-take_turn-clause-serving g c = c.take_turn.ensures.served _ _ c.loop.invariant.serving

pub loop-preserved : goal.loop-preserved
loop-preserved g c =
    let i = c.loop.invariant in
    let t = c.take_turn.ensures in
    let later = c.take_turn.new.row in
    let turned = t.served _ _ i.serving in
    let rests = c.end_turn.ensures.keeps.1 later rested_none in
    record {
      ready = grind arith;
      serving = loop_rested c.wake_all.ensures.rest rests _ _ turned;
      known = c.end_turn.ensures.known;
      woken = grind arith;
      due = grind (arith, common_steps);
      free = c.end_turn.ensures.free;
      still = c.end_turn.ensures.still;
      stands = c.end_turn.ensures.control ∙ t.stands i.stands;
    }

pub end_turn-requires : goal.end_turn-requires
end_turn-requires g c = grind arith

pub wake_all-requires : goal.wake_all-requires
wake_all-requires g c =
    let old = c.loop.invariant.serving.served in
    let turned = (c.take_turn.ensures.served _ _ c.loop.invariant.serving).served in
    let now = c.so_far.ensures in
    record {
      known = known_after c.next-turn.result c.loop.invariant.woken
          (omega (arith, turned.many, turned.trace.many, old.many, old.trace.many, c.loop.invariant.ready.2))
          c.take_turn.ensures.wakes c.next-turn.ensures.acts c.take_turn.ensures.only
          (rw (now.seats, now.mails) at c.next-turn.ensures.known);
    }

pub next-turn-requires-clause-of_run : goal.next-turn-requires-clause-of_run
next-turn-requires-clause-of_run g c = c.requires.new.of_run

pub next-turn-requires-clause-free : goal.next-turn-requires-clause-free
next-turn-requires-clause-free g c = rw c.so_far.ensures.seats c.loop.invariant.free

pub next-turn-requires-clause-still : goal.next-turn-requires-clause-still
next-turn-requires-clause-still g c = rw (c.so_far.ensures.seats, c.so_far.ensures.mails) c.loop.invariant.still

pub next-turn-requires-clause-so_far : goal.next-turn-requires-clause-so_far
next-turn-requires-clause-so_far g c =
    let s = c.loop.invariant.serving in grind (arith, serving_so_far s.served s.submits)

pub next-turn-requires-clause-turn : goal.next-turn-requires-clause-turn
next-turn-requires-clause-turn g c = grind arith
