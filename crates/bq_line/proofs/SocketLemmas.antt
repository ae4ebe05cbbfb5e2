-- What a write of three texts by one call of the system means for a stream.
use Rattle.std.proofs.Common.{◌≡◌, ℕ, List, [], ◌∷◌, ◌++◌, Result, arith}
use Rattle.std.proofs.lemmas.Grind.{common_steps}
use Rattle.std.specs.Io.Slices.{io_slice_bytes, io_slices_bytes}
use Rattle.std.specs.declared.io.Error.{Error}
use Rattle.std.specs.declared.io.slices.IoSlice.{IoSlice}
use Rattle.bq_line.specs.LineCalls.{in_brief}
use Rattle.bq_line.specs.Streams.{StreamSeen, WritesTo}
use Rattle.bq_line.specs.declared.line.stream_error.StreamError.{StreamError}

pub slices_in_brief : (old new : StreamSeen) (a b c : IoSlice) (first second third : List ℕ) (took : Result ℕ Error)
    (result : Result ℕ StreamError) → io_slice_bytes a ≡ first → io_slice_bytes b ≡ second → io_slice_bytes c ≡ third
    → result ≡ in_brief took
    → WritesTo old (in_brief took) (io_slices_bytes (a ∷ b ∷ c ∷ [])) (io_slices_bytes (a ∷ b ∷ c ∷ [])) new
    → WritesTo old result first ((first ++ second) ++ third) new
slices_in_brief old new a b c first second third took result a_is b_is c_is is wrote = grind (arith, common_steps)
