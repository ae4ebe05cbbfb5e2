use Rattle.std.proofs.Common.{◌≡◌, ◌++◌, refl, rules, take}
use Rattle.std.proofs.KnownBytes.{Keeps-refl}
use Rattle.bq_line.proofs.BufferLemmas.{taken_first}
use Rattle.bq_line.proofs.StreamLemmas.{read_more}
use Rattle.bq_line.proofs.line.io_line.BufferedLineLine.take_unread.Goals as goal

pub returns-clause-stays : goal.returns-clause-stays
returns-clause-stays g c first over =
    let noted : c.note.new.self ≡ c.args.self.now.line.read ++ take c.args.count c.args.self.now.came = search rules in
    read_more first _ _ _ _ _ noted (taken_first _ _ _ _ c.drop_front.ensures) (Keeps-refl _) refl over
