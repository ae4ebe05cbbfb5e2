-- The history of an end of the links.
use Rattle.std.proofs.Common.{[], append-nil, refl, sym}
use Rattle.bq_link.specs.EndStates.{SeatState}
use Rattle.bq_thread_work.specs.Ends.{EndTrace}

-- nothing was submitted or taken
pub end_still : (end : SeatState) → EndTrace end [] [] end
end_still end = ((refl, refl, refl), sym (append-nil end.submitted), sym (append-nil end.taken))
