use Rattle.std.proofs.Common.{◌≡◌, take}
use Rattle.std.specs.List.{flat_map}
use Rattle.bq_wire.specs.HasRead.{HasReadText}
use Rattle.bq_wire.proofs.reader.requests_of.Given as goal

abbrev pub invariant-loop-piece : goal.invariant-loop-piece
invariant-loop-piece l = record {
  limit : l.reader.max_job_size ≡ l.fn.max_job_size;
  read : HasReadText l.reader (flat_map (λ piece. piece.items) (take l.piece-index l.pieces)) l.requests.items;
}
