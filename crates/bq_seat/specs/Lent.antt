-- What a byte buffer holds once its bytes are no longer lent.
use Rattle.std.specs.Prelude.{ℕ, List, length}
use Rattle.std.specs.List.{refill}
use Rattle.std.specs.Borrow.{Array, Fml, Lends, MutBor, RattleType, u8}
use Rattle.bq_seat.specs.contracts.byte_buffer.ByteBuffer.{the_row}

-- the bytes that `lent` shows last
abbrev pub LendsAll : RattleType → MutBor (List ℕ) → MutBor (List ℕ) → Fml
LendsAll room buffer lent = Lends (the_row room) (Array u8 0) buffer lent (refill (length buffer.now) buffer.now)
