-- The door of a listener.
use Rattle.std.specs.Prelude.{◌≡◌}
use Rattle.bq_line.specs.declared.door.listen_door.ListenDoor.{ListenDoor}

-- The door has the same listener, and stands as before with its connections.
abbrev pub KeepsDoor : {R T : Type 0} → ListenDoor R T → ListenDoor R T → Type 0
KeepsDoor old new =
    (new.is_out ≡ old.is_out) × (new.is_at_end ≡ old.is_at_end) × (new.over ≡ old.over) × (new.listener ≡ old.listener)
    × (new.left ≡ old.left) × (new.met_fault ≡ old.met_fault)
