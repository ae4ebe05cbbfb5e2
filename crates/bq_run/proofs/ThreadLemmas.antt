-- The threads of a run: their posts, their starts and what they returned.
use Rattle.std.proofs.Common.{◌≡◌, ◌==◌, ◌&&◌, ℕ, zero, suc, ◌<◌, true, false, not, List, []}
use Rattle.std.proofs.Common.{◌∷◌, ◌++◌, ◌∙◌, Some, map, length, sym, ap, arith}
use Rattle.std.proofs.Common.{slice_get, slice_index_or}
use Rattle.std.specs.Prelude.{◌↔◌, IsErrOf, IsTrue, Result}
use Rattle.bq_job.specs.declared.settings.Settings.{Settings}
use Rattle.bq_core_api.specs.Limits.{are_in_range}
use Rattle.std.specs.List.{All, AllZip}
use Rattle.std.proofs.lemmas.{List.Elements.{All-head, All-tail, AllZip-get_or}, Slice.Zip.{AllZip-long, all_zipped_more}}
use Rattle.bq_line.specs.Tending.{AreSame, DoorSeen, IsDoorServed}
use Rattle.bq_host.specs.declared.fault.RunFault.{RunFault}
use Rattle.bq_host.specs.declared.fault.RunFault.TheVariants.{BadConfiguration}
use Rattle.bq_link.specs.EndStates.{CoreState, IsSameCore, IsSameSeat, SeatState}
use Rattle.bq_link.specs.NewEnds.{AreNewSeats}
use Rattle.atomic_table.specs.Seated.{TableId}
use Rattle.bq_run.specs.Linked.{ArePaired}
use Rattle.bq_run.specs.Threads.{AreServed, IsNewEndAt}

-- What the threads of the seats returned, as a list of ends and one of doors.
pub given_served : {D P : Type 0} (at : D → DoorSeen) (same : D → D → Type 0) (size : ℕ) (end : P → SeatState) (door : P → D)
    (limit : P → ℕ) (posts : List P) (backs : List (SeatState × D)) → All (λ (p : P). limit p ≡ size) posts
    → AllZip (λ (p : P) (b : SeatState × D). IsSameSeat (end p) b.0 × IsDoorServed (limit p) (at b.1) b.0.submitted b.0.taken
    × same (door p) b.1) posts backs
    → AreServed at size (map end posts) (map (λ (b : SeatState × D). b.0) backs) (map (λ (b : SeatState × D). b.1) backs)
    × AreSame same (map door posts) (map (λ (b : SeatState × D). b.1) backs)
given_served at same size end door limit [] [] limits h = ((tt, tt), tt)
given_served {D} {P} at same size end door limit (p ∷ posts) (b ∷ backs) limits h =
    let of = λ (q : P). limit q ≡ size in
    let more = given_served at same size end door limit posts backs (All-tail of p posts limits) h.1 in
    (((h.0.0, more.0.0), (rw (All-head of p posts limits) at h.0.1, more.0.1)), (h.0.2, more.1))
given_served at same size end door limit [] (b ∷ backs) limits h = absurd h
given_served at same size end door limit (p ∷ posts) [] limits h = absurd h

-- Each end that was returned is the one that its thread began with. The end of the control line
-- comes after the others.
pub back_paired : (core core_last : CoreState) (all firsts lasts : List SeatState) (first last : SeatState)
    → AreNewSeats core all → firsts ++ first ∷ [] ≡ all → AllZip IsSameSeat firsts lasts → IsSameSeat first last
    → IsSameCore core core_last
    → ArePaired core_last (lasts ++ last ∷ [])
back_paired core core_last all firsts lasts first last new whole ends same same_core place d below =
    let new' : AreNewSeats core (firsts ++ first ∷ []) = rw whole new in
    let both = all_zipped_more IsSameSeat firsts lasts first last ends same in
    let within : place < length (firsts ++ first ∷ []) =
    omega (arith, below, AllZip-long IsSameSeat (firsts ++ first ∷ []) (lasts ++ last ∷ []) both) in
    let n = new' place d within in
    let s = AllZip-get_or IsSameSeat (firsts ++ first ∷ []) (lasts ++ last ∷ []) place d d both within in
    (s.0 ∙ n.number, (same_core.0 ∙ n.pair.0 ∙ sym s.1, (λ i. slice_get (same_core.1 i) (s.0 i)) ∙ n.pair.1 ∙ ap Some (sym s.2)))

-- two related lists, by their elements at a place
pub zipped_at : {A B : Type 0} (R : A → B → Type 0) (xs : List A) (ys : List B) → AllZip R xs ys
    → (place : ℕ) (a : A) (b : B) → place < length xs → R (slice_index_or xs place a) (slice_index_or ys place b)
zipped_at R [] [] h place a b below = absurd (omega (arith, below))
zipped_at R (x ∷ xs) (y ∷ ys) h zero a b below = h.0
zipped_at R (x ∷ xs) (y ∷ ys) h (suc place) a b below = zipped_at R xs ys h.1 place a b (omega (arith, below))
zipped_at R _ _ h place a b below = absurd h

-- All doors are at their end.
pub all_at_end : {D : Type 0} (at : D → DoorSeen) (size : ℕ) (lasts : List SeatState) (doors : List D)
    → AllZip (λ (d : D) (e : SeatState). IsDoorServed size (at d) e.submitted e.taken) doors lasts
    → All (λ (d : D). ((at d).is_out ≡ false) × ((at d).is_at_end ≡ true)) doors
all_at_end at size [] [] h place d below = absurd (omega (arith, below))
all_at_end at size (e ∷ es) (x ∷ xs) h zero d below = (h.0.inside, h.0.at_end)
all_at_end at size (e ∷ es) (x ∷ xs) h (suc place) d below = all_at_end at size es xs h.1 place d (omega (arith, below))
all_at_end at size _ _ h place d below = absurd h

-- New ends belong to the intake of the core's end, and are unused.
pub new_ends : (core : CoreState) (all : List SeatState) (intake : TableId) → AreNewSeats core all → core.intake ≡ intake
    → All (λ (e : SeatState). IsNewEndAt intake e) all
new_ends core all intake new is place d below = let n = new place d below in record {
  at = sym n.pair.0 ∙ is;
  new = record { submitted = n.submitted; taken = n.taken; waiting = n.waiting };
}

-- A run with a configuration in its ranges and a door for each seat is not rejected for its
-- configuration.
pub well_configured : {T : Type 0} (result : Result T RunFault) (config : Settings) (doors : ℕ) → (IsErrOf result BadConfiguration → ⊥)
    → doors ≡ config.seats → are_in_range config ≡ true
    → IsErrOf result BadConfiguration ↔ IsTrue (not (are_in_range config && doors == config.seats))
well_configured result config doors other many range = grind arith
