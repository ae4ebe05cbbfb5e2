-- Where command lines end.
use Rattle.std.proofs.Common.{◌≡◌, ◌<◌, ◌≤◌, ℕ, ◌+◌, ◌-◌, zero, suc, Bool, true, false, ◌&&◌, []}
use Rattle.std.proofs.Common.{◌==◌, List, ◌∷◌, ◌++◌, Option, Some, None, add-one}
use Rattle.std.proofs.Common.{refl, arith, length, take, drop, get_or, option_map, if◌then◌else◌}
use Rattle.std.proofs.Math.Bool.{and-false, and-true}
use Rattle.std.proofs.lemmas.Bool.{cases_Bool, Decides.nat_tests}
use Rattle.std.proofs.lemmas.Grind.{common_steps}
use Rattle.std.proofs.lemmas.List.{take-take, length-take-le}
use Rattle.std.proofs.Math.Seq.{drop-append-add, take-append-add}
use Rattle.bq_job.specs.reading.Line.{first_line, onto_line}
use Rattle.bq_wire.specs.LineEnds.{line_end_after, last_is_cr, later_by}
use Rattle.memchr.specs.Find.{IsFirstByte, is_byte}

-- one byte further
one_more : (t : Bool) (k : ℕ) (o : Option ℕ)
    → option_map suc (if t then Some (suc k) else option_map (λ n. suc k + n) o) ≡
    (if t then Some (suc (suc k)) else option_map (λ n. suc (suc k) + n) o)
one_more t k o = grind (arith, common_steps, cases_Bool)

-- without an LF, no line ends
pub no_feed : (c : Bool) (bytes : List ℕ) → IsFirstByte (is_byte 10) bytes None → line_end_after c bytes ≡ None
no_feed c [] none = refl
no_feed c (b ∷ bytes) none =
    let later = no_feed (b == 13) bytes (λ k low high. none (suc k) (omega arith) (omega arith)) in
    grind (arith, nat_tests, none 0, and-false)

-- the first LF ends a command line if it follows a CR; otherwise the search continues after it
pub feed_at : (c : Bool) (bytes : List ℕ) (k : ℕ) → IsFirstByte (is_byte 10) bytes (Some k)
    → line_end_after c bytes ≡ (if last_is_cr c (take k bytes) then Some (k + 1) else later_by (k + 1)
    (line_end_after false (drop (k + 1) bytes)))
feed_at c [] k found = absurd (omega (arith, found.0.high))
feed_at c (b ∷ bytes) zero found = grind (arith, common_steps, nat_tests, and-true)
feed_at c (b ∷ bytes) (suc k) found =
    let not_here : (b == 10) ≡ false = grind (arith, nat_tests, found.0.before 0) in
    let later = feed_at (b == 13) bytes k (
      record {
        low = omega arith;
        high = omega (arith, found.0.high);
        before = λ j low high. found.0.before (suc j) (omega arith) (omega arith);
      },
      found.1,
    ) in
    rw (not_here, and-false c, later, add-one (suc k), add-one k)
    (one_more (last_is_cr (b == 13) (take k bytes)) k (line_end_after false (drop (suc k) bytes)))

pub last_is_cr_last : (c : Bool) (bytes : List ℕ) → 0 < length bytes → last_is_cr c bytes ≡ (get_or bytes (length bytes - 1) 0 == 13)
last_is_cr_last c [] some = absurd (omega arith)
last_is_cr_last c (b ∷ bytes) some = grind (arith, common_steps, last_is_cr_last (b == 13) bytes)

no_end_cases : (t : Bool) (o : Option ℕ) → (if t then Some 1 else option_map suc o) ≡ None → (t ≡ false) × (o ≡ None)
no_end_cases t o h = grind (arith, common_steps, cases_Bool)

pub line_end_within : (c : Bool) (bytes : List ℕ) (e : ℕ) → line_end_after c bytes ≡ Some e → (0 < e) × (e ≤ length bytes)
line_end_within c [] e h = cc
line_end_within c (b ∷ bytes) e h =
    grind (arith, common_steps, line_end_within (b == 13) bytes)

-- a command line that ends with the first byte follows a CR
pub line_end_one : (c : Bool) (bytes : List ℕ) → line_end_after c bytes ≡ Some 1 → c ≡ true
line_end_one c [] h = cc
line_end_one c (b ∷ bytes) h = grind (arith, common_steps, cases_Bool, line_end_within)

-- the bytes up to a command line's end have the same line end
pub line_end-take : (c : Bool) (bytes : List ℕ) (e : ℕ) → line_end_after c bytes ≡ Some e → line_end_after c (take e bytes) ≡ Some e
line_end-take c [] e h = cc
line_end-take c (b ∷ bytes) e h =
    grind (arith, common_steps, line_end-take (b == 13) bytes)

later_by-zero : (o : Option ℕ) → o ≡ later_by 0 o
later_by-zero o = grind (arith, common_steps)

later_by-suc : (n : ℕ) (o : Option ℕ) → option_map suc (later_by n o) ≡ later_by (suc n) o
later_by-suc n o = grind (arith, common_steps)

-- if no line ends in a first part, it ends in the second or nowhere
pub line_end-append : (c : Bool) (text more : List ℕ) → line_end_after c text ≡ None
    → line_end_after c (text ++ more) ≡ later_by (length text) (line_end_after (last_is_cr c text) more)
line_end-append c [] more h = grind (arith, common_steps)
line_end-append c (b ∷ text) more h = grind (arith, common_steps, line_end-append (b == 13) text more)

pub last_is_cr_append : (c : Bool) (text more : List ℕ) → last_is_cr c (text ++ more) ≡ last_is_cr (last_is_cr c text) more
last_is_cr_append c [] more = refl
last_is_cr_append c (b ∷ text) more = last_is_cr_append (b == 13) text more

-- where the first line of a text ends
first_line_at : (a : ℕ) (bytes : List ℕ)
    → first_line (a ∷ bytes) ≡ option_map (λ e. (take (e - 1) (a ∷ bytes), drop e bytes)) (line_end_after (a == 13) bytes)
first_line_at a [] = refl
first_line_at a (b ∷ bytes) =
    rw (first_line_at b bytes) (go (a == 13 && b == 10) (line_end_after (b == 13) bytes) (line_end_within (b == 13) bytes))
  where
    go : (t : Bool) (o : Option ℕ) → ((e : ℕ) → o ≡ Some e → (0 < e) × (e ≤ length bytes))
        → (if t then Some ([], bytes) else option_map (onto_line a) (option_map (λ e. (take (e - 1) (b ∷ bytes), drop e bytes)) o))
        ≡ option_map (λ e. (take (e - 1) (a ∷ b ∷ bytes), drop e (b ∷ bytes))) (if t then Some 1 else option_map suc o)
    go true o within = refl
    go false None within = refl
    go false (Some e) within = let less : suc e - 1 ≡ suc (e - 1) = omega (arith, (within e refl).0) in rw less

first_line_of : (text : List ℕ) → first_line text ≡ option_map (λ e. (take (e - 2) text, drop e text)) (line_end_after false text)
first_line_of [] = refl
first_line_of (a ∷ bytes) = grind (arith, first_line_at)

-- a text without a first line has no line end
pub no_line_end : (text : List ℕ) → first_line text ≡ None → line_end_after false text ≡ None
no_line_end text none = grind (arith, common_steps, first_line_of text)

-- no line ends in the text, nor in the bytes after it
pub goes_on : (text piece : List ℕ) → first_line text ≡ None → line_end_after (last_is_cr false text) piece ≡ None
    → first_line (text ++ piece) ≡ None
goes_on text piece none more = grind (arith, first_line_of, line_end-append, no_line_end)

-- the line that ends in the bytes after the text
pub ends_there : (text piece : List ℕ) (e : ℕ) → first_line text ≡ None → line_end_after (last_is_cr false text) piece ≡ Some e
    → first_line (text ++ take e piece) ≡ Some (take (length (text ++ take (e - 1) piece) - 1) (text ++ take (e - 1) piece), [])
ends_there text piece e none here =
    let within = line_end_within (last_is_cr false text) piece e here in
    let whole = line_end-append false text (take e piece) (no_line_end text none) in
    let taken = line_end-take (last_is_cr false text) piece e here in
    let first = first_line_of (text ++ take e piece) in
    let before = take-append-add text (take e piece) (e - 1) in
    let after = drop-append-add text (take e piece) e in
    grind (arith, common_steps, take-take, length-take-le)
