-- Decoding a connection's numbers yields the connection, whatever numbers follow.
use Rattle.std.proofs.Common.{◌≡◌, refl, ap, ℕ, List, [], ◌∷◌, ◌++◌, arith}
use Rattle.bq_job.specs.promise.History.{LineOver}
use Rattle.bq_line.specs.LineNumbers.{numbers_with_group, into_first, groups_of_numbers, number_of_end}
use Rattle.bq_line.specs.LineNumbers.{number_of_flag, number_of_fault, numbers_with_line}
use Rattle.bq_line.specs.LineNumbers.{line_of_groups, lines_of_numbers}

pub group_back : (group rest : List ℕ) → groups_of_numbers (numbers_with_group group rest) ≡ group ∷ groups_of_numbers rest
group_back [] rest = refl
group_back (n ∷ group) rest = ap (into_first n) (group_back group rest)

line_back : (line : LineOver) → line_of_groups (number_of_end line.over) (number_of_flag line.seen.ended)
    (number_of_fault line.seen.fault) line.seen.read line.seen.written ≡ line
line_back line = grind arith

pub lines_back : (line : LineOver) (rest : List ℕ) → lines_of_numbers (numbers_with_line line rest) ≡ lines_of_numbers rest ++ line ∷ []
lines_back line rest = grind (arith, line_back, group_back)
