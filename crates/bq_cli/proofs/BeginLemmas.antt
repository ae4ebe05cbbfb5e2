-- How a server begins: a new control line over an input has the bytes that the input has left.
use Rattle.std.proofs.Common.{◌≡◌, ℕ, Bool, List, [], Option, None, Some, Err}
use Rattle.std.proofs.Common.{arith, inl, inr}
use Rattle.std.proofs.KnownBytes.{prepend_known-nil}
use Rattle.std.specs.Io.Buffered.{reader_buffer, reader_capacity, reader_inner, reader_remaining}
use Rattle.std.specs.declared.io.buffered.BufReader.{BufReader}
use Rattle.std.specs.declared.net.tcp.TcpListener.{TcpListener}
use Rattle.bq_host.specs.Meanings.{Core}
use Rattle.bq_program.specs.declared.chosen.Options.{Options}
use Rattle.bq_program.specs.declared.fault.Fault.TheVariants.{CannotListen}
use Rattle.bq_cli.specs.Servers.{IsStatusOfListening, IsStatusOfServer, IsStatusOrOne}

pub left_of_new : {T A : Type 0} (remaining : T → Option (List ℕ)) (r : BufReader T A) (input : T)
    → reader_inner r ≡ input → reader_buffer r ≡ [] → reader_capacity r ≡ 8192 → reader_remaining remaining r ≡ remaining input
left_of_new remaining r input i b c = grind (arith, prepend_known-nil)

-- The status of a program follows from that of its server.
pub status_from : {R I K : Type 0} {left : I → Option (List ℕ)} {may_fail : I → Bool} {core : Core K} {chosen same : Options}
    {input : Option (List ℕ)} {listener : TcpListener} {control : I} {status : ℕ} → chosen ≡ same → left control ≡ input
    → IsStatusOrOne R left may_fail core chosen listener control status → IsStatusOfListening R left may_fail core same input status
status_from e l (inl one) = (None, one)
status_from {listener = listener} {control = control} e l (inr of) = (Some (listener, control), (l, rw (← e) of.0))

-- The program cannot listen, whichever engine was chosen.
pub cannot_begin : {R I K : Type 0} {left : I → Option (List ℕ)} {may_fail : I → Bool} {core : Core K}
    {options : Options} {listener : TcpListener} {control : I} {status : ℕ}
    → status ≡ 1 → IsStatusOfServer R left may_fail core options listener control status
cannot_begin e = record {
  by_loop = λ chosen. record { came = Err CannotListen; served = tt; refused = tt; status_is = e };
  by_threads = λ chosen. record { came = Err CannotListen; served = tt; refused = tt; status_is = e };
}
