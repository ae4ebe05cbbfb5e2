-- What an action lacked that moved nothing.
use Rattle.bq_job.specs.declared.step.Step.{Step}
use Rattle.bq_job.specs.declared.step.Step.TheVariants.{Gone}
use Rattle.bq_line.specs.declared.attendant.SeatPhase.{SeatPhase}
use Rattle.bq_line.specs.declared.attendant.SeatPhase.TheVariants as phases
use Rattle.bq_line.specs.declared.attendant.Progress.{Progress}
use Rattle.bq_line.specs.declared.attendant.Progress.TheVariants as results
use Rattle.bq_seat.specs.declared.machine.Action.{Action}
use Rattle.bq_seat.specs.declared.machine.Action.TheVariants as actions

-- The result is that the step was not accepted only if the link did not accept it, and that there is no mail only if the link had none.
abbrev pub Lacks : {K : Type 0} → (K → Step → K → Type 0) → (K → K → Type 0) → Progress → K → Action → K → Type 0
Lacks refused had_none results.NotAccepted old (actions.Submit step) new = refused old step new
Lacks refused had_none results.NotAccepted old _ new = ⊥
Lacks refused had_none results.NoMail old action new = had_none old new
Lacks refused had_none _ old action new = Unit {0}

-- The same of an action of a seat in this phase. Without a connection it submits nothing, except that no more come.
abbrev pub LacksAt : {K L : Type 0} → (K → Step → K → Type 0) → (K → K → Type 0) → Progress → K → SeatPhase L → K → Type 0
LacksAt refused had_none result old (phases.On line action sent) new = Lacks refused had_none result old action new
LacksAt refused had_none result old phases.Leaving new = Lacks refused had_none result old (actions.Submit Gone) new
LacksAt refused had_none result old _ new = Lacks refused had_none result old actions.Stray new
