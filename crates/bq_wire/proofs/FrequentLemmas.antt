-- The lines that are read in one pass.
use Rattle.bq_job.proofs.ListLemmas.{all_weaker, list_all_from, all_pass}
use Rattle.std.proofs.Common.{◌≡◌, ◌≤◌, ℕ, Bool, true, false, ◌==◌, not, List, ◌∷◌, ◌++◌, Option, Some, refl, sym, ◌∙◌, ap, arith, []}
use Rattle.std.proofs.Common.{append_assoc, codes, length, length-append, nat_lt, take}
use Rattle.std.proofs.lemmas.Bool.Decides.{nat_tests}
use Rattle.std.proofs.lemmas.List.Folds.{list_all-append}
use Rattle.std.specs.List.{list_all}
use Rattle.bq_job.specs.reading.Line.{first_line}
use Rattle.bq_job.specs.reading.LineRead as spec
use Rattle.bq_job.specs.reading.LineRead.{longest_line}
use Rattle.bq_job.specs.reading.Words.{is_digit, job_id, number, words}
use Rattle.bq_job.specs.declared.request.Request.TheVariants as requests
use Rattle.bq_wire.specs.Leading.{Leads}
use Rattle.bq_wire.specs.Standing.{IsLineAsking}
use Rattle.bq_wire.proofs.WordLemmas.{digits_are_letters, one_word, word_then}

-- a byte that is no CR
abbrev is_plain : ℕ → Bool
is_plain b = not (b == 13)

plain : (word : List ℕ) → list_all is_digit word ≡ true → list_all is_plain word ≡ true
plain word all = grind (arith, list_all_from, all_weaker, all_pass)

-- a line without a CR ends at the first CR LF
line_before : (line : List ℕ) → list_all is_plain line ≡ true → first_line (line ++ 13 ∷ 10 ∷ []) ≡ Some (line, [])
line_before [] all = refl
line_before (a ∷ []) all = let here : (a == 13) ≡ false = grind (arith, nat_tests, all) in rw here
line_before (a ∷ b ∷ line) all =
    let here : (a == 13) ≡ false = grind (arith, nat_tests, all) in
    rw (here, line_before (b ∷ line) (grind (arith, nat_tests, all)))

pub reserve_is : (piece : List ℕ) (end : ℕ) (asked : spec.LineRead) → end ≡ 9 → asked ≡ spec.Whole requests.Reserve
    → take end piece ≡ codes "reserve" ++ 13 ∷ 10 ∷ [] → IsLineAsking asked (take end piece)
reserve_is piece end asked nine reserve is =
    rw (reserve, is) (record { line = codes "reserve"; first_line_is = refl; read_is = refl })

-- A text begins with numbers, each but the last followed by a space, and then the CR before `rest`. These are their words.
record Numbers (text rest : List ℕ) (these : List (List ℕ)) : Type 0 where
  line : List ℕ
  text_is : text ≡ line ++ 13 ∷ rest
  plain_is : list_all is_plain line ≡ true
  words_are : words line ≡ these

last_number : {read : List ℕ → Option ℕ} {n : ℕ} {text rest : List ℕ} (l : Leads read 13 n text rest) → Numbers text rest (l.word ∷ [])
last_number l = grind (arith, plain, one_word, digits_are_letters)

one_more : {read : List ℕ → Option ℕ} {n : ℕ} {text later rest : List ℕ} {these : List (List ℕ)} (l : Leads read 32 n text later)
    → Numbers later rest these → Numbers text rest (l.word ∷ these)
one_more {rest = rest} l more = record {
  line = l.word ++ 32 ∷ more.line;
  text_is = l.text_is ∙ ap (λ (xs : List ℕ). l.word ++ 32 ∷ xs) more.text_is ∙ sym (append_assoc l.word (32 ∷ more.line) (13 ∷ rest));
  plain_is = rw (list_all-append is_plain l.word (32 ∷ more.line), plain l.word l.digits) more.plain_is;
  words_are = rw more.words_are at (word_then l.word more.line (digits_are_letters l.word l.digits));
}

-- A line of a command's name, a space and numbers ends where `rest` begins with its LF, and asks what its words do.
asks_numbers : (name piece text rest : List ℕ) (these : List (List ℕ)) (end : ℕ) (asked : spec.LineRead) → piece ≡ (name ++ 32 ∷ []) ++ text
    → list_all is_plain (name ++ 32 ∷ []) ≡ true → Numbers text rest these
    → ((line : List ℕ) → words line ≡ these → spec.read_line_words (words ((name ++ 32 ∷ []) ++ line)) ≡ asked)
    → ((front : List ℕ) → piece ≡ front ++ rest → (take end piece ≡ front ++ 10 ∷ []) × (length front ≤ longest_line))
    → IsLineAsking asked (take end piece)
asks_numbers name piece text rest these end asked is name_plain n read ends =
    let line : List ℕ = (name ++ 32 ∷ []) ++ n.line in
    let at = ends (line ++ 13 ∷ []) (grind (arith, append_assoc)) in
    let short : length line ≤ longest_line = omega (arith, length-append line (13 ∷ []), at.1) in
    let whole : take end piece ≡ line ++ 13 ∷ 10 ∷ [] = grind (arith, append_assoc) in
    let fits : nat_lt longest_line (length line) ≡ false = grind (arith, nat_tests, short) in
    let no_cr : list_all is_plain line ≡ true = grind (arith, list_all-append) in
    rw whole (record { line = line; first_line_is = line_before line no_cr; read_is = rw fits (read n.line n.words_are) })

pub delete_is : (piece numbers rest : List ℕ) (n end : ℕ) → piece ≡ codes "delete " ++ numbers → Leads job_id 13 n numbers rest
    → ((front : List ℕ) → piece ≡ front ++ rest → (take end piece ≡ front ++ 10 ∷ []) × (length front ≤ longest_line))
    → IsLineAsking (spec.Whole (requests.Delete n)) (take end piece)
delete_is piece numbers rest n end is id ends =
    asks_numbers (codes "delete") piece numbers rest _ end _ is refl (last_number id) (λ line e. rw (e, id.read_is) refl) ends

pub put_is : (piece t0 t1 t2 t3 rest : List ℕ) (pri delay ttr bytes end : ℕ) → piece ≡ codes "put " ++ t0
    → Leads number 32 pri t0 t1 → Leads number 32 delay t1 t2 → Leads number 32 ttr t2 t3 → Leads number 13 bytes t3 rest
    → ((front : List ℕ) → piece ≡ front ++ rest → (take end piece ≡ front ++ 10 ∷ []) × (length front ≤ longest_line))
    → IsLineAsking (spec.PutWaits (record { pri = pri; delay = delay; ttr = ttr; bytes = bytes })) (take end piece)
put_is piece t0 t1 t2 t3 rest pri delay ttr bytes end is a b c d ends =
    asks_numbers (codes "put") piece t0 rest _ end _ is refl (one_more a (one_more b (one_more c (last_number d)))) (λ line e. cc) ends
