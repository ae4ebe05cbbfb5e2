-- What the link of a seat to a hub did in an action.
use Rattle.std.proofs.Common.{◌∙◌, ◌≡◌, ◌++◌, Bool, true, false, List, [], append-nil, arith}
use Rattle.bq_job.specs.declared.answer.Answer.{Answer}
use Rattle.bq_job.specs.declared.step.Step.{Step}
use Rattle.bq_seat.specs.declared.machine.Action.{Action}
use Rattle.bq_line.specs.Carried.{HasGone, MayCall}
use Rattle.bq_line.specs.Links.{Calls, TakesFurther, TakesInPlace}
use Rattle.bq_host.specs.Hubs.{HubTrace, KeepsFresh, OnlyMoves}
use Rattle.bq_host.specs.Meanings.{Clock, Core}
use Rattle.bq_host.specs.declared.{hub.Hub.Hub, hub_seat.HubSeat.HubSeat}
use Rattle.bq_host.proofs.HubLemmas.{fresh_on, trace_none, trace_then}

module _ {C K : Type 0} (k : Core K) (c : Clock C) where
  abbrev pub LinkTrace : HubSeat C K → List Step → List Answer → HubSeat C K → Type 0
  LinkTrace first submitted taken last =
      (last.hub.ghost_name ≡ first.hub.ghost_name) × (last.seat ≡ first.seat)
      × HubTrace k c first.seat first.hub.now submitted taken last.hub.now × KeepsFresh c.given first.hub.now last.hub.now

  -- If the seat submitted nothing and took nothing, the hub did no more than the link, whose hub it is by its ghost name.
  pub still_at : (first last : HubSeat C K) (hub : Hub C K) → (first.hub.ghost_name ≡ last.hub.ghost_name → hub ≡ last.hub.now)
      → Calls LinkTrace first [] [] last → Calls (HubTrace k c first.seat) first.hub.now [] [] hub
  still_at first last hub is h = grind arith

  -- The mark of a fresh reading is kept, whether the link was used or not.
  pub fresh_at : (first last : HubSeat C K) (hub : Hub C K) (submitted : List Step) (taken : List Answer)
      → (first.hub.ghost_name ≡ last.hub.ghost_name → hub ≡ last.hub.now) → Calls LinkTrace first submitted taken last
      → KeepsFresh c.given first.hub.now hub
  fresh_at first last hub submitted taken is h = grind arith

  -- One action, whether the link was used or not.
  pub link_gone : (first last : HubSeat C K) (action : Action) (submitted : List Step) (taken : List Answer)
      → HasGone LinkTrace first action submitted taken last → MayCall action submitted taken
      → LinkTrace first submitted taken last
  link_gone first last action submitted taken h may = grind (arith, trace_none k c first.seat first.hub.now)

  -- Whatever the seat did before, it then took these answers.
  link_then : (first old new : HubSeat C K) {submitted : List Step} {taken later : List Answer} → new.hub.ghost_name ≡ old.hub.ghost_name
      → new.seat ≡ old.seat → HubTrace k c old.seat old.hub.now [] later new.hub.now → OnlyMoves old.hub.now new.hub.now
      → LinkTrace first submitted taken old → LinkTrace first submitted (taken ++ later) new
  link_then first old new {submitted} {taken} {later} name seat t m w = (
    name ∙ w.0,
    seat ∙ w.1,
    rw (append-nil submitted) at
        (trace_then k c first.seat old.seat first.hub.now old.hub.now new.hub.now submitted [] taken later w.1 w.2 t),
    grind (arith, fresh_on),
  )

  -- It then took an answer, or there was none.
  pub took_further : (old new : HubSeat C K) (place next : Action) (took : Bool) → new.hub.ghost_name ≡ old.hub.ghost_name
      → new.seat ≡ old.seat → TakesInPlace (HubTrace k c old.seat) old.hub.now place took next new.hub.now
      → OnlyMoves old.hub.now new.hub.now → TakesFurther LinkTrace old place took next new
  took_further old new place next true name seat t m = (t.0, t.1, λ first submitted taken w. link_then first old new name seat t.2 m w)
  took_further old new place next false name seat t m =
      (t.0, λ first submitted taken w. rw (append-nil taken) at (link_then first old new name seat t.1 m w))
