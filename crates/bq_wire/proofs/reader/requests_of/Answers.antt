use Rattle.std.proofs.Common.{◌≡◌, ◌∙◌, ℕ, Vec, Global, arith, take}
use Rattle.std.proofs.lemmas.Grind.{common_steps}
use Rattle.std.specs.List.{flat_map}
use Rattle.bq_wire.proofs.HasReadLemmas.{read_piece, read_of, flat_map_more}
use Rattle.bq_wire.proofs.reader.requests_of.Goals as goal

pub loop-piece-preserved : goal.loop-piece-preserved
loop-piece-preserved c =
    let loop = c.loop-piece in
    let fed = c.feed_all in
    let piece = c.piece-item.result in
    record {
      limit = c.in_ok-feed_all.ensures.limit ∙ loop.invariant.limit;
      read =
          rw (flat_map_more (λ (p : Vec ℕ Global). p.items) c.args.pieces.now loop.piece-index piece c.loop-piece-test.true c.piece-item.is)
          (read_piece loop.reader fed.new.reader (flat_map (λ (p : Vec ℕ Global). p.items)
          (take loop.piece-index c.args.pieces.now)) piece.items
          loop.requests.items fed.new.requests.items loop.invariant.read (grind arith) c.in_ok-feed_all.ensures.over);
    }

pub returns : goal.returns
returns c =
    let all : take c.loop-piece.piece-index c.args.pieces.now ≡ c.args.pieces.now = grind (arith, common_steps) in
    read_of c.args.max_job_size _ _ _ c.loop-piece.invariant.limit (rw all at c.loop-piece.invariant.read)
