-- The doors of a run are still those that it was given.
use Rattle.std.proofs.Common.{◌≡◌, ◌∙◌, ℕ, ◌<◌, false, true, List, Option, Some, length, arith}
use Rattle.std.specs.List.{All}
use Rattle.std.proofs.lemmas.{List.Elements.{AllZip-get_or}, Slice.Zip.{AllZip-long}}
use Rattle.std.specs.declared.net.tcp.TcpListener.{TcpListener}
use Rattle.bq_line.specs.Tending.{AreSame}
use Rattle.bq_program.specs.declared.chosen.Options.{Options}
use Rattle.bq_cli.specs.Servers.{AreServedDoors, IsDoorAt, IsSameDoor, TcpDoor}

same_at : {R : Type 0} (listener : TcpListener) (sessions : Option ℕ) (first last : TcpDoor R) → IsSameDoor first last
    → IsDoorAt listener sessions first → IsDoorAt listener sessions last
same_at listener sessions first last s h = grind arith

all_at : {R : Type 0} (listener : TcpListener) (sessions : Option ℕ) (firsts lasts : List (TcpDoor R)) → AreSame IsSameDoor firsts lasts
    → All (λ door. IsDoorAt listener sessions door) firsts → All (λ door. IsDoorAt listener sessions door) lasts
all_at listener sessions firsts lasts s h k d below =
    let first : k < length firsts = omega (arith, below, AllZip-long IsSameDoor firsts lasts s) in
    same_at listener sessions _ _ (AllZip-get_or IsSameDoor firsts lasts k d d s first) (h k d first)

-- A door that met no fault is at its end because all of its connections came.
all_came : {R : Type 0} (listener : TcpListener) (sessions : Option ℕ) (door : TcpDoor R) → door.is_out ≡ false → door.is_at_end ≡ true
    → IsDoorAt listener sessions door → door.met_fault ≡ false → sessions ≡ Some (length door.over)
all_came listener sessions door o e h f = grind (arith, door.ended)

-- what the run of a server says of its doors
pub doors_served : {R : Type 0} (options : Options) (listener : TcpListener) (firsts lasts : List (TcpDoor R)) (many : ℕ)
    → length firsts ≡ options.seats → many ≡ length lasts → AreSame IsSameDoor firsts lasts
    → All (λ door. IsDoorAt listener options.sessions door) firsts → All (λ door. (door.is_out ≡ false) × (door.is_at_end ≡ true)) lasts
    → AreServedDoors options listener many lasts
doors_served options listener firsts lasts many seats whole same at ends =
    let now = all_at listener options.sessions firsts lasts same at in
    record {
      seats = whole ∙ AllZip-long IsSameDoor firsts lasts same ∙ seats;
      doors = now;
      at_end = ends;
      all_came = λ k d below. let e = ends k d below in all_came listener options.sessions _ e.0 e.1 (now k d below);
    }
