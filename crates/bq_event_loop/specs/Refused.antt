-- A run that did not begin.
use Rattle.std.specs.Prelude.{◌≡◌, Result, Ok, Err}
use Rattle.bq_host.specs.declared.fault.RunFault.{RunFault}
use Rattle.bq_event_loop.specs.declared.run.RunRefused.{RunRefused}

-- It did not begin for this reason.
abbrev pub IsRefusedBy : {R D : Type 0} → Result R (RunRefused D) → RunFault → Type 0
IsRefusedBy (Ok run) fault = ⊥
IsRefusedBy (Err refused) fault = refused.fault ≡ fault
