-- The history of an end of the links.
use Rattle.std.specs.Prelude.{◌≡◌, Bool, false, List, [], ◌++◌}
use Rattle.bq_job.specs.declared.answer.Answer.{Answer}
use Rattle.bq_job.specs.declared.step.Step.{Step}
use Rattle.bq_line.specs.Links.{TakesInPlace}
use Rattle.bq_thread_work.specs.declared.seat_work.SeatLink.{SeatLink}
use Rattle.bq_seat.specs.declared.machine.Action.{Action}
use Rattle.bq_link.specs.EndStates.{IsSameSeat, SeatState}

-- A new end.
pub record IsNewEnd (seat : SeatState) : Type 0 where
  pub submitted : seat.submitted ≡ []
  pub taken : seat.taken ≡ []
  pub waiting : seat.waiting ≡ []

-- It is the same end, and between `first` and `last` it submitted these steps and took these
-- answers.
abbrev pub EndTrace : SeatState → List Step → List Answer → SeatState → Type 0
EndTrace first submitted taken last =
    IsSameSeat first last × (last.submitted ≡ first.submitted ++ submitted) × (last.taken ≡ first.taken ++ taken)

-- An end was polled: the oldest answer was taken as an action that writes it. Or none was found; then
-- none was known to wait, and nothing changed.
abbrev pub Polls : SeatState → Action → Bool → Action → SeatState → Type 0
Polls first action found next last =
    TakesInPlace EndTrace first action found next last
    × (found ≡ false → (first.waiting ≡ []) × (last ≡ first) × (next ≡ action))

-- What went over a link to the end. The last link that is dropped knows the end by its ghost name.
abbrev pub LinkTrace : {R : Type 0} → SeatLink R → List Step → List Answer → SeatLink R → Type 0
LinkTrace first submitted taken last =
    (last.end.ghost_name ≡ first.end.ghost_name) × (last.intake ≡ first.intake) × EndTrace first.end.now submitted taken last.end.now
