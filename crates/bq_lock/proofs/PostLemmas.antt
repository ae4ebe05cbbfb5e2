-- Doors after the threads of their posts have ended.
use Rattle.std.proofs.Common.{◌≡◌, ℕ, List, [], ◌∷◌, map}
use Rattle.std.specs.List.{All, AllZip}
use Rattle.std.proofs.lemmas.List.Elements.{All-cons, All-head, All-nil, All-tail}
use Rattle.bq_line.specs.Tending.{AreSame, DoorSeen}
use Rattle.bq_lock.specs.LockedRuns.{IsServedToEnd}

-- The doors that the threads of the posts returned.
pub doors_back : {D P : Type 0} (at : D → DoorSeen) (same : D → D → Type 0) (size : ℕ) (door : P → D) (limit : P → ℕ)
    (posts : List P) (backs : List D) → All (λ (p : P). limit p ≡ size) posts
    → AllZip (λ (p : P) (b : D). IsServedToEnd (limit p) (at b) × same (door p) b) posts backs
    → All (λ (b : D). IsServedToEnd size (at b)) backs × AreSame same (map door posts) backs
doors_back {D} at same size door limit [] [] limits h = (All-nil (λ (b : D). IsServedToEnd size (at b)), tt)
doors_back {D} {P} at same size door limit (p ∷ posts) (b ∷ backs) limits h =
    let of = λ (q : P). limit q ≡ size in
    let more = doors_back at same size door limit posts backs (All-tail of p posts limits) h.1 in
    (All-cons (λ (d : D). IsServedToEnd size (at d)) b backs (rw (All-head of p posts limits) at h.0.0) more.0, (h.0.1, more.1))
doors_back at same size door limit [] (b ∷ backs) limits h = absurd h
doors_back at same size door limit (p ∷ posts) [] limits h = absurd h
