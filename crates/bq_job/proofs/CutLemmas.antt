-- Answers connection by connection: where a list of them is cut.
use Rattle.std.proofs.Common.{◌++◌, ◌+◌, ◌∷◌, ◌≡◌, ◌≤◌, List, [], ℕ, arith, false, length, refl}
use Rattle.std.proofs.lemmas.{Bool.or_parts, Grind.common_steps}
use Rattle.bq_job.specs.{beside.{AreLinesServed, closes}, machine.has_closed, promise.LineOver, Types.Answer}
use Rattle.bq_job.specs.Types.{Step}
use Rattle.bq_job.specs.declared.answer.Answer.TheVariants as answers
use Rattle.bq_job.proofs.ListLemmas.{heads}

pub closes_append : (xs ys : List Answer) → closes (xs ++ ys) ≡ closes xs + closes ys
closes_append [] ys = omega arith
closes_append (answers.Closed ∷ xs) ys = omega (arith, closes_append xs ys)
closes_append (x ∷ xs) ys = closes_append xs ys

pub unclosed_closes : (xs : List Answer) → has_closed xs ≡ false → closes xs ≡ 0
unclosed_closes [] h = refl
unclosed_closes (answers.Closed ∷ xs) h = absurd cc
unclosed_closes (x ∷ xs) h = unclosed_closes xs h

pub closes_unclosed : (xs : List Answer) → closes xs ≡ 0 → has_closed xs ≡ false
closes_unclosed [] h = refl
closes_unclosed (answers.Closed ∷ xs) h = absurd (omega arith)
closes_unclosed (x ∷ xs) h = closes_unclosed xs h

-- there is at least one `Closed` for each connection
pub lines_close : (size : ℕ) (lines : List LineOver) (own : List Step) (taken : List Answer) → AreLinesServed size lines own taken
    → length lines ≤ closes taken
lines_close size [] own taken h = omega arith
lines_close size (line ∷ lines) own taken h = grind (arith, closes_append, lines_close size lines h.1 h.3 h.7)

-- A list is cut at its first `Closed` in only one way. Splitting by kind of answer would need a
-- case for each pair of kinds.
pub same_cut : (xs ys later rest : List Answer) → has_closed xs ≡ false → has_closed ys ≡ false
    → xs ++ answers.Closed ∷ later ≡ ys ++ answers.Closed ∷ rest → (xs ≡ ys) × (later ≡ rest)
same_cut [] [] later rest h i e = (refl, (heads answers.Closed answers.Closed later rest e).1)
same_cut [] (y ∷ ys) later rest h i e = absurd (grind (arith, common_steps))
same_cut (x ∷ xs) [] later rest h i e = grind (arith, common_steps, heads)
same_cut (x ∷ xs) (y ∷ ys) later rest h i e = grind (arith, heads, or_parts, same_cut xs ys later rest)
