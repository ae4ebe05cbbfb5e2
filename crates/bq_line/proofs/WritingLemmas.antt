-- Texts that are written in several parts.
use Rattle.std.proofs.Common.{◌≡◌, ℕ, ◌-◌, ◌≤◌, Bool, true, List, [], ◌∷◌, ◌++◌}
use Rattle.std.proofs.Common.{sym, ap, ◌∙◌, arith, length, take, drop, append_assoc, if◌then◌else◌}
use Rattle.std.proofs.Common.{◌==◌, Result}
use Rattle.std.proofs.lemmas.Grind.{common_steps}
use Rattle.std.proofs.lemmas.List.{take-append-drop}
use Rattle.bq_job.specs.promise.LineSteps.{LineSeen, IsBeginning}
use Rattle.bq_job.specs.declared.line_end.LineFault.TheVariants as faults
use Rattle.bq_line.specs.LineCalls.{after_write, with_line_fault}
use Rattle.bq_line.specs.declared.buffers.Wrote.{Wrote}
use Rattle.bq_line.specs.declared.buffers.Wrote.TheVariants as wrotes
use Rattle.bq_line.specs.declared.line.stream_error.StreamError.{StreamError}
use Rattle.bq_line.specs.Writing.{WritesOn, with_begun}

pub take_begins : (n : ℕ) (bytes : List ℕ) → IsBeginning (take n bytes) bytes
take_begins n bytes = (drop n bytes, sym (take-append-drop n bytes))

-- There is no room yet, or the write failed.
pub stops : (text : List ℕ) (old new first : LineSeen) (sent : ℕ) (wrote : Wrote) (none_yet : Bool) → old ≡ with_begun text sent first
    → wrote ≡ (if none_yet then wrotes.NotYet else wrotes.Fault) → new ≡ (if none_yet then old else with_line_fault faults.Write old)
    → WritesOn text first wrote sent new
stops text old new first sent wrote none_yet h7 h8 h9 = grind (arith, take_begins)

-- two parts without bytes
pub nothing_appended : (head body tail : List ℕ) → (length body == 0) ≡ true → (length tail == 0) ≡ true → head ≡ head ++ body ++ tail
nothing_appended head body tail h3 h4 = grind (arith, common_steps)

-- ---- what follows the first bytes of several parts

-- A write from a text is one from an equal text.
pub from_same : (result : Result ℕ StreamError) (part whole : List ℕ) (old new : LineSeen) → new ≡ after_write result part old
    → part ≡ whole → new ≡ after_write result whole old
from_same result part whole old new is same = is ∙ ap (λ bytes. after_write result bytes old) same

drop_past : (n : ℕ) (xs ys : List ℕ) → length xs ≤ n → drop n (xs ++ ys) ≡ drop (n - length xs) ys
drop_past n [] ys le = grind (arith, common_steps)
drop_past n (x ∷ xs) ys le = grind (arith, common_steps, drop_past (n - 1) xs ys)

pub behind_first_of_three : (done : ℕ) (head body tail : List ℕ) → length head ≤ done
    → drop (done - length head) (body ++ tail) ≡ drop done ((head ++ body) ++ tail)
behind_first_of_three done head body tail le = grind (arith, drop_past, append_assoc)
