-- The first line of a text, and of the text with more bytes after it.
use Rattle.std.proofs.Common.{◌≡◌, ℕ, Bool, true, false, List, [], ◌∷◌, ◌++◌, Option}
use Rattle.std.proofs.Common.{Some, ◌⊎◌, inl, inr, ap, arith, option_map, if◌then◌else◌, rules}
use Rattle.std.proofs.lemmas.{Bool.{cases_Bool, Decides.nat_tests}, Grind.common_steps}
use Rattle.bq_job.specs.reading.Line.{first_line, onto_line, are_line_end}

-- a first line ends at the first two bytes, or later
pub first_line_cases : (t : Bool) (a : ℕ) (bytes : List ℕ) (later : Option (List ℕ × List ℕ)) (l : List ℕ × List ℕ)
    → (if t then Some ([], bytes) else option_map (onto_line a) later) ≡ Some l
    → ((t ≡ true) × (([], bytes) ≡ l)) ⊎ ((m : List ℕ × List ℕ) × (t ≡ false) × (later ≡ Some m) × (onto_line a m ≡ l))
first_line_cases t a bytes later l e = grind (arith, common_steps, cases_Bool)

-- a text with more bytes after it has the same first line
pub first_line-append : (text more : List ℕ) (l : List ℕ × List ℕ) → first_line text ≡ Some l
    → first_line (text ++ more) ≡ Some (l.0, l.1 ++ more)
first_line-append [] more l e = cc
first_line-append (a ∷ []) more l e = cc
first_line-append (a ∷ b ∷ bytes) more l e = grind (arith, first_line_cases, first_line-append (b ∷ bytes) more)

-- a text is its first line, CR LF, and the rest
pub first_line_is : (text : List ℕ) (l : List ℕ × List ℕ) → first_line text ≡ Some l → text ≡ l.0 ++ 13 ∷ 10 ∷ l.1
first_line_is [] l e = cc
first_line_is (a ∷ []) l e = cc
first_line_is (a ∷ b ∷ bytes) l e =
    elim (first_line_cases (are_line_end a b) a bytes (first_line (b ∷ bytes)) l e) [
      | inl h ↦ rw (← h.1) (let end = h.0 in grind (arith, nat_tests))
      | inr h ↦ rw (← h.3) (ap (λ bs. a ∷ bs) (first_line_is (b ∷ bytes) h.0 h.2))
    ]

-- a byte in front of a command line and its rest
first_line-onto : (a b : ℕ) (bytes after other line : List ℕ) → are_line_end a b ≡ false → b ∷ bytes ≡ line ++ 13 ∷ 10 ∷ after
    → first_line (line ++ 13 ∷ 10 ∷ other) ≡ Some (line, other) → first_line (a ∷ (line ++ 13 ∷ 10 ∷ other)) ≡ Some (a ∷ line, other)
first_line-onto a b bytes after other line f e ih = search (rules, cases_Bool, common_steps)

-- the first line is the same, whatever comes after its CR LF
pub first_line_again : (text other : List ℕ) (l : List ℕ × List ℕ) → first_line text ≡ Some l
    → first_line (l.0 ++ 13 ∷ 10 ∷ other) ≡ Some (l.0, other)
first_line_again [] other l e = cc
first_line_again (a ∷ []) other l e = cc
first_line_again (a ∷ b ∷ bytes) other l e =
    elim (first_line_cases (are_line_end a b) a bytes (first_line (b ∷ bytes)) l e) [
      | inl h ↦ rw (← h.1)
      | inr h ↦ rw (← h.3) (first_line-onto a b bytes h.0.1 other h.0.0 h.1 (first_line_is (b ∷ bytes) h.0 h.2)
          (first_line_again (b ∷ bytes) other h.0 h.2))
    ]
