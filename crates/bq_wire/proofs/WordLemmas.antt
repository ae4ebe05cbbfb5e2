-- The words of a command line, and the numbers that they denote.
use Rattle.std.proofs.Common.{◌≡◌, ◌<◌, ◌≤◌, ℕ, ◌^◌, ◌+◌, ◌-◌, true, List, ◌∷◌, ◌++◌, Option, Some, None, []}
use Rattle.std.proofs.Common.{refl, arith, length, take, drop, get_or, fold}
use Rattle.std.proofs.lemmas.Bool.Decides.{nat_tests}
use Rattle.std.proofs.lemmas.Grind.{common_steps}
use Rattle.std.proofs.lemmas.List.{take_more}
use Rattle.std.proofs.lemmas.List.Folds.{list_all_more}
use Rattle.std.proofs.lemmas.List.Sums.{fold-append}
use Rattle.std.specs.List.{list_all}
use Rattle.bq_job.specs.reading.Words.{is_digit, job_id, value_of_digits, with_digit, words}
use Rattle.bq_job.specs.reading.LineRead.{no_words}
use Rattle.bq_job.specs.declared.request.Request.{Request}
use Rattle.bq_job.specs.declared.request.Request.TheVariants as requests
use Rattle.bq_job.proofs.ListLemmas.{all_pass, all_weaker, list_all_from}
use Rattle.bq_wire.specs.Asked.{IsNext, IsNextId, only}
use Rattle.bq_wire.specs.WordsLeft.{is_letter}

-- without a space, the line is one word
pub one_word : (line : List ℕ) → list_all is_letter line ≡ true → words line ≡ line ∷ []
one_word [] all = refl
one_word (b ∷ line) all = grind (arith, common_steps, nat_tests, one_word line)

-- the first word ends at the first space
pub word_then : (word more : List ℕ) → list_all is_letter word ≡ true → words (word ++ 32 ∷ more) ≡ word ∷ words more
word_then [] more all = refl
word_then (b ∷ word) more all = grind (arith, common_steps, nat_tests, word_then word more)

-- a digit is no space
pub digits_are_letters : (word : List ℕ) → list_all is_digit word ≡ true → list_all is_letter word ≡ true
digits_are_letters word all = grind (arith, list_all_from, all_weaker, all_pass)

-- one more byte that is no space, or a digit
pub letters_more : (line : List ℕ) (i : ℕ) → i < length line → list_all is_letter (take i line) ≡ true
    → (get_or line i 0 ≡ 32 → ⊥) → list_all is_letter (take (i + 1) line) ≡ true
letters_more line i low before here = grind (arith, nat_tests, list_all_more is_letter line i 0)

pub digits_more : (line : List ℕ) (i : ℕ) → i < length line → list_all is_digit (take i line) ≡ true
    → is_digit (get_or line i 0) ≡ true → list_all is_digit (take (i + 1) line) ≡ true
digits_more line i low before here = rw (list_all_more is_digit line i 0 low, before) here

pub value_more : (line : List ℕ) (i : ℕ) → i < length line
    → value_of_digits (take (i + 1) line) ≡ with_digit (value_of_digits (take i line)) (get_or line i 0)
value_more line i low = rw (take_more line i 0 low, fold-append with_digit 0 (take i line) (get_or line i 0 ∷ [])) refl

-- the line is one word
pub only_word : (line : List ℕ) (k : ℕ) → k ≡ length line → list_all is_letter (take k line) ≡ true → words line ≡ line ∷ []
only_word line k end letters = grind (arith, common_steps, one_word)

-- the first word, as the code splits it off
pub words_first : (line : List ℕ) (k : ℕ) → k ≤ length line → (k ≡ length line → ⊥) → list_all is_letter (take k line) ≡ true
    → (k < length line → get_or line k 0 ≡ 32)
    → words line ≡ take k line ∷ words (take (length line - (k + 1)) (drop (k + 1) line))
words_first line k within more letters space = grind (arith, common_steps, word_then (take k line) (drop (k + 1) line) letters)

-- further digits do not make the number smaller
pub with_digits_le : (bytes : List ℕ) (n : ℕ) → n ≤ fold with_digit n bytes
with_digits_le [] n = omega arith
with_digits_le (b ∷ bytes) n = omega (arith, with_digits_le bytes (with_digit n b))

-- a word whose digits so far make too large a number
pub too_great : (word : List ℕ) (i n : ℕ) → i < length word → fold with_digit n (drop i word) ≡ value_of_digits word
    → (with_digit n (get_or word i 0) < 2 ^ 64 → ⊥) → None ≡ job_id word
too_great word i n low value great = grind (arith, common_steps, with_digits_le)

-- a word whose digits have all been read
pub all_digits : (word : List ℕ) (i n : ℕ) → length word ≤ i → 0 < length word → list_all is_digit (drop i word) ≡ list_all is_digit word
    → fold with_digit n (drop i word) ≡ value_of_digits word → n < 2 ^ 64 → Some n ≡ job_id word
all_digits word i n end some digits value small = grind (arith, common_steps)

-- the line is a number
pub id_at_end : (line : List ℕ) (k n : ℕ) → (k ≡ 0 → ⊥) → k ≡ length line → list_all is_digit (take k line) ≡ true
    → n ≡ value_of_digits (take k line) → n < 2 ^ 64 → IsNextId (words line) [] (Some n)
id_at_end line k n some end digits value small = grind (arith, common_steps, one_word, digits_are_letters)

-- the line begins with a number and a space
pub id_before_space : (line : List ℕ) (k n : ℕ) → (k ≡ 0 → ⊥) → k ≤ length line → (k ≡ length line → ⊥) → get_or line k 0 ≡ 32
    → list_all is_digit (take k line) ≡ true → n ≡ value_of_digits (take k line) → n < 2 ^ 64
    → IsNextId (words line) (words (take (length line - (k + 1)) (drop (k + 1) line))) (Some n)
id_before_space line k n some within more here digits value small = grind (arith, words_first, digits_are_letters)

-- more words remain after the first
pub not_only : (read : List ℕ → Option ℕ) (old new : List (List ℕ)) (n : ℕ) → IsNext read old new (Some n)
    → ((request : Request) → no_words request new ≡ None) → None ≡ only read old
not_only read old new n next none = grind (arith, common_steps, none requests.Quit)
