use Rattle.std.proofs.Common.{List, [], ◌∷◌, ◌++◌, refl, inl, inr}
use Rattle.std.specs.{Fmt.digits, Prelude.{codes, replicate}}
use Rattle.bq_wire_tests.specs.examples.HistoryExamples.{drain_at, ended_line, gone, quit_line, unread_line, unwritten_line, usual}
use Rattle.bq_job.specs.declared.answer.Answer.TheVariants.{Closed, Inserted, Reserved as HandedOut}
use Rattle.bq_job.specs.declared.request.Request.TheVariants.{Put, Quit, Reserve}
use Rattle.bq_wire_tests.specs.examples.Examples.{ask, close}
use Rattle.bq_job.specs.promise.{Entry, IsBeginning, IsCutOff, IsDoorOwed, IsOverBy}
use Rattle.bq_wire_tests.specs.examples.Examples.{connect}
use Rattle.bq_job.specs.{promise.{LineOver, heard}, texts.AnswerText.answer_text}
use Rattle.bq_job.specs.declared.step.Step.TheVariants as steps
use Rattle.bq_wire_tests.proofs.HistoryLemmas.{line_so, lines_so, picked_all, served_so}
use Rattle.bq_wire_tests.proofs.examples.histories.doors_are_served.Goals as goal

pub returns-clause-a_put_answers_a_reserve : goal.returns-clause-a_put_answers_a_reserve
unfolding digits
returns-clause-a_put_answers_a_reserve c =
    let put = Put 5 0 10 (codes "abc") in
    let reserves : LineOver = ended_line (codes "reserve\r\n") (codes "RESERVED 1 3\r\nabc\r\n") in
    let puts : LineOver = ended_line (codes "put 5 0 10 3\r\nabc\r\n") (codes "INSERTED 1\r\n") in
    let history : List Entry =
    connect 0 ∷ connect 1 ∷ ask 0 Reserve ∷ ask 1 put ∷ drain_at 2 ∷ close 0 ∷ close 1 ∷ gone 0 ∷ gone 1 ∷ gone 2 ∷ [] in
    let job = HandedOut 1 (codes "abc") ∷ [] in
    let inserted = Inserted 1 ∷ [] in
    let first = steps.Connect ∷ steps.Ask Reserve ∷ steps.Close ∷ [] in
    let second = steps.Connect ∷ steps.Ask put ∷ steps.Close ∷ [] in
    let of_first = line_so reserves (Reserve ∷ []) (Reserve ∷ []) job refl (refl, refl, refl) refl refl in
    let of_second = line_so puts (put ∷ []) (put ∷ []) inserted refl (refl, refl, refl) refl refl in
    let at_first = lines_so reserves [] first [] job [] of_first refl (refl, refl) in
    let at_second = lines_so puts [] second [] inserted [] of_second refl (refl, refl) in
    let rest : IsDoorOwed usual (puts ∷ []) (second ++ steps.Gone ∷ []) (inserted ++ Closed ∷ []) =
    record { own = second; of_lines = at_second; taken_is = refl } in
    served_so history ((reserves ∷ []) ∷ (puts ∷ []) ∷ []) (codes "drain\n") (picked_all (replicate 10 0))
    (record { own = first; of_lines = at_first; taken_is = refl }, (rest, tt)) refl refl

pub returns-clause-a_quit_ends_the_second_line : goal.returns-clause-a_quit_ends_the_second_line
unfolding digits
returns-clause-a_quit_ends_the_second_line c =
    let put = Put 0 0 9 (codes "x") in
    let ended : LineOver = ended_line (codes "put 0 0 9 1\r\nx\r\nreserve\r\n") (codes "INSERTED 1\r\nRESERVED 1 1\r\nx\r\n") in
    let quits : LineOver = quit_line (codes "reserve\r\nquit\r\n") (codes "RESERVED 1 1\r\nx\r\n") in
    let history : List Entry =
    connect 0 ∷ ask 0 put ∷ ask 0 Reserve ∷ close 0 ∷ connect 0 ∷ ask 0 Reserve ∷ ask 0 Quit ∷ close 0 ∷ gone 0 ∷ gone 1 ∷ [] in
    let job = HandedOut 1 (codes "x") ∷ [] in
    let first = steps.Connect ∷ steps.Ask put ∷ steps.Ask Reserve ∷ steps.Close ∷ [] in
    let second = steps.Connect ∷ steps.Ask Reserve ∷ steps.Ask Quit ∷ steps.Close ∷ [] in
    let of_first = line_so ended (put ∷ Reserve ∷ []) (put ∷ Reserve ∷ []) (Inserted 1 ∷ job) refl (refl, refl, refl) refl refl in
    let of_second = line_so quits (Reserve ∷ Quit ∷ []) (Reserve ∷ Quit ∷ []) job refl (refl, refl) refl refl in
    let more = lines_so quits [] second [] job [] of_second refl (refl, refl) in
    let both = lines_so ended (quits ∷ []) first second (Inserted 1 ∷ job) (job ++ Closed ∷ []) of_first refl more in
    served_so history ((ended ∷ quits ∷ []) ∷ []) [] (picked_all (replicate 10 0))
    (record { own = first ++ second; of_lines = both; taken_is = refl }, tt) refl refl

pub returns-clause-faults_end_both_lines : goal.returns-clause-faults_end_both_lines
unfolding digits
returns-clause-faults_end_both_lines c =
    let put = Put 0 100 9 (codes "x") in
    let unwritten : LineOver = unwritten_line (codes "put 0 100 9 1\r\nx\r\nreserve\r\n") (codes "INSE") in
    let unread : LineOver = unread_line (codes "reserve\r\n") [] in
    let history : List Entry = connect 0 ∷ ask 0 put ∷ close 0 ∷ connect 0 ∷ ask 0 Reserve ∷ close 0 ∷ gone 0 ∷ gone 1 ∷ [] in
    let begins : IsBeginning (codes "INSE") (answer_text (Inserted 1)) = (codes "RTED 1\r\n", refl) in
    let cut : IsCutOff (Inserted 1 ∷ []) (codes "INSE") =
    record { first = []; last = Inserted 1; cut = codes "INSE"; answers_are = refl; is_beginning = begins; written_is = refl } in
    let first = steps.Connect ∷ steps.Ask put ∷ steps.Close ∷ [] in
    let second = steps.Connect ∷ steps.Ask Reserve ∷ steps.Close ∷ [] in
    let over : IsOverBy (heard unwritten.seen) unwritten.over (put ∷ Reserve ∷ []) (put ∷ []) =
    (Reserve ∷ [], refl, (λ h. absurd cc), refl, refl) in
    let of_first = line_so unwritten (put ∷ Reserve ∷ []) (put ∷ []) (Inserted 1 ∷ []) refl over refl cut in
    let of_second = line_so unread (Reserve ∷ []) (Reserve ∷ []) [] refl (refl, refl, refl) (inr (refl, refl)) (inl refl) in
    let more = lines_so unread [] second [] [] [] of_second refl (refl, refl) in
    let both = lines_so unwritten (unread ∷ []) first second (Inserted 1 ∷ []) (Closed ∷ []) of_first refl more in
    served_so history ((unwritten ∷ unread ∷ []) ∷ []) [] (picked_all (replicate 8 0))
    (record { own = first ++ second; of_lines = both; taken_is = refl }, tt) refl refl
