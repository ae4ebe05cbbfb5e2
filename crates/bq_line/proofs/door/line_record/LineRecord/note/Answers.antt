use Rattle.std.proofs.Common.{ap, ◌∙◌, [], ◌∷◌, ◌++◌}
use Rattle.bq_job.specs.promise.History.{LineOver}
use Rattle.bq_line.specs.LineNumbers.{lines_of_numbers}
use Rattle.bq_line.proofs.LineNumberLemmas.{lines_back}
use Rattle.bq_line.proofs.door.line_record.LineRecord.note.Goals as goal

pub returns : goal.returns
returns g c =
    let noted : LineOver = record { seen = g.L.Line.seen c.args.line.now; over = c.args.end } in
    ap lines_of_numbers c.with_line.ensures ∙ lines_back noted c.self.inside.tag.numbers ∙ ap (λ lines. lines ++ noted ∷ []) c.self.view_is
