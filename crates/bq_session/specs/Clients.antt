-- The status of a program that serves a client.
use Rattle.std.specs.Prelude.{ℕ, ◌≡◌, Result, Ok, Err}
use Rattle.bq_program.specs.Statuses.{IsStatusOfStop, status_of_end}
use Rattle.bq_program.specs.declared.fault.Stop.{Stop}
use Rattle.bq_session.specs.declared.session.Served.{Served}

-- The status follows from what came of the client.
abbrev pub IsStatusOfClient : {S K : Type 0} → Result (Served S K) Stop → ℕ → Type 0
IsStatusOfClient (Ok served) status = status ≡ status_of_end served.end
IsStatusOfClient (Err stop) status = IsStatusOfStop stop status
