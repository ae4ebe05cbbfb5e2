-- First parts of the texts of answers.
use Rattle.std.proofs.Common.{◌≡◌, List, [], ◌∷◌, ◌++◌, ℕ, sym, ap, ◌∙◌, subst, inl, inr, append-nil, append_assoc, arith}
use Rattle.std.proofs.lemmas.Grind.{flat_map-append, common_steps}
use Rattle.bq_job.specs.promise.{IsBeginning, IsWritten, answers_text}
use Rattle.bq_job.specs.{texts.AnswerText.answer_text, Types.{Answer, LineEnd, Request}}
use Rattle.bq_job.specs.declared.line_end.LineEnd.TheVariants as ends

pub begins_whole : (bytes text : List ℕ) → bytes ≡ text → IsBeginning bytes text
begins_whole bytes text is = ([], sym is ∙ sym (append-nil bytes))

begins_more : (bytes text more : List ℕ) → IsBeginning bytes text → IsBeginning bytes (text ++ more)
begins_more bytes text more b = (b.0 ++ more, ap (λ (xs : List ℕ). xs ++ more) b.1 ∙ append_assoc bytes b.0 more)

pub begins_in : (early bytes text : List ℕ) → IsBeginning early bytes → IsBeginning bytes text → IsBeginning early text
begins_in early bytes text a b = subst (λ (xs : List ℕ). IsBeginning early xs) (sym b.1) (begins_more early bytes b.0 a)

-- the texts of more answers
pub texts_more : (bytes : List ℕ) (answers more : List Answer) → IsBeginning bytes (answers_text answers)
    → IsBeginning bytes (answers_text (answers ++ more))
texts_more bytes answers more b =
    grind (arith, common_steps, flat_map-append answer_text answers more, begins_more bytes (answers_text answers) (answers_text more) b)

-- all of the first answers, and a part of the next one
pub texts_cut : (bytes cut : List ℕ) (first : List Answer) (last : Answer) → bytes ≡ answers_text first ++ cut
    → IsBeginning cut (answer_text last) → IsBeginning bytes (answers_text (first ++ last ∷ []))
texts_cut bytes cut first last is b = grind (arith, common_steps, flat_map-append, append-nil, append_assoc)

-- What was written to a connection that has ended is a first part of its answers' texts.
pub ended_begins : (over : LineEnd) (asked : List Request) (answers : List Answer) (written : List ℕ) → IsWritten over asked answers written
    → IsBeginning written (answers_text answers)
ended_begins ends.Quit asked answers written w = begins_whole written (answers_text answers) w
ended_begins ends.EndOfInput asked answers written w = begins_whole written (answers_text answers) w
ended_begins ends.ReadFault asked answers written w = elim w [
  | inl e ↦ begins_whole written (answers_text answers) e
  | inr u ↦ rw u.answers_are (texts_more written u.first (u.last ∷ []) (begins_whole written (answers_text u.first) u.written_is))
]
ended_begins ends.WriteFault asked answers written w = grind (arith, common_steps, texts_cut)
