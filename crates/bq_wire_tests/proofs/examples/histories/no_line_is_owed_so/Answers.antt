use Rattle.std.proofs.Common.{◌≡◌, List, [], ◌∷◌, ◌++◌, map, length, length-append, arith, ap, ◌∙◌, refl, sym}
use Rattle.std.proofs.lemmas.List.{length-map}
use Rattle.std.specs.{Fmt.digits, Prelude.{ℕ, codes}}
use Rattle.bq_job.specs.declared.{answer.Answer.TheVariants.Inserted, request.Request.TheVariants.{Delete, Reserve}}
use Rattle.bq_job.specs.promise.{answers_text}
use Rattle.bq_wire_tests.specs.examples.HistoryExamples.{usual}
use Rattle.bq_job.specs.declared.step.Step.TheVariants as steps
use Rattle.bq_job.proofs.{CutLemmas.same_cut, ReadsLemmas.Reads-unique}
use Rattle.bq_wire_tests.proofs.HistoryLemmas.{dropped_none, same_many}
use Rattle.bq_job.proofs.ReadsLemmas.{reading-Reads}
use Rattle.bq_wire_tests.proofs.examples.histories.no_line_is_owed_so.Goals as goal

pub returns-clause-command_missing : goal.returns-clause-command_missing
returns-clause-command_missing c = λ written given h.
    let s = h.steps in
    let text : List ℕ = codes "delete 1\r\nreserve\r\n" in
    let same = Reads-unique usual text s.requests (Delete 1 ∷ Reserve ∷ []) s.rest [] s.reads (reading-Reads usual text) in
    let many = same_many s.requests (Delete 1 ∷ Reserve ∷ []) same.1 in
    let asked = ap length s.is_over.0 in
    let all = ap length s.steps_are in
    let before_close = length-append (steps.Connect ∷ [] ++ map steps.Ask s.asked ++ s.end_steps) (steps.Close ∷ []) in
    let before_end = length-append (steps.Connect ∷ [] ++ map steps.Ask s.asked) s.end_steps in
    let asks = length-map s.asked steps.Ask in
    absurd (omega arith)

pub returns-clause-end_unread : goal.returns-clause-end_unread
returns-clause-end_unread c = λ taken given h. absurd (let e = h.steps.is_over.2 in cc)

pub returns-clause-bytes_of_another : goal.returns-clause-bytes_of_another
unfolding digits
returns-clause-bytes_of_another c = λ h.
    let l = h.of_lines in
    let got = same_cut (Inserted 1 ∷ []) l.2 [] l.3 refl l.5 l.7 in
    let written : codes "RESERVED 1 3\r\nabc\r\n" ≡ codes "INSERTED 1\r\n" = l.4.written ∙ ap answers_text (sym got.0) in
    absurd cc

pub returns-clause-dropped : goal.returns-clause-dropped
returns-clause-dropped c = dropped_none
