-- The run of a server: its settings, its end, and the status that follows.
use Rattle.std.specs.Prelude.{ℕ, ◌≡◌, ◌≤◌, ◌⊎◌, Bool, false, true, List, [], ◌++◌, length, Option, Some, None, Result, Ok, Err}
use Rattle.std.specs.Prelude.{IfErr, IfOk, if◌then◌else◌, vec_len}
use Rattle.std.specs.List.{All, list_any}
use Rattle.std.specs.declared.net.tcp.TcpListener.{TcpListener}
use Rattle.std.specs.declared.net.tcp.TcpStream.{TcpStream}
use Rattle.bq_job.specs.declared.settings.Settings.{Settings}
use Rattle.bq_host.specs.Meanings.{Core}
use Rattle.bq_job.specs.promise.LineSteps.{LineSeen}
use Rattle.bq_line.specs.InAll.{in_all}
use Rattle.bq_line.specs.Tending.{IsNewDoor}
use Rattle.bq_line.specs.declared.line.io_line.BufferedLine.{BufferedLine}
use Rattle.bq_line.specs.declared.line.connection.Connection.{Connection}
use Rattle.bq_line.specs.declared.door.listen_door.ListenDoor.{ListenDoor}
use Rattle.bq_program.specs.Ranges.{IsForBqd}
use Rattle.bq_program.specs.declared.chosen.BqdOptions.{BqdOptions}
use Rattle.bq_program.specs.declared.chosen.OptionFault.{OptionFault}
use Rattle.bq_program.specs.Chosen.{of_bqd}
use Rattle.bq_program.specs.Statuses.{IsStatusOfOptionFault, status_of_server}
use Rattle.bq_program.specs.declared.chosen.Options.{Options}
use Rattle.bq_program.specs.declared.fault.Fault.{Fault}
use Rattle.bq_program.specs.declared.fault.Fault.TheVariants as faults
use Rattle.bq_event_loop.specs.EventLoopRuns.{IsEventLoopRun, IsEventLoopSoFar}
use Rattle.bq_event_loop.specs.declared.run.EventLoopRun.{EventLoopRun}
use Rattle.bq_run.specs.ThreadRuns.{IsRunOf}
use Rattle.bq_run.specs.declared.run.Run.{Run}
use Rattle.bq_core_api.specs.Limits.{are_in_range}
use Rattle.bq_cli.specs.declared.telling_clock.TellingClock.{TellingClock}

-- a door that accepts TCP connections
abbrev pub TcpDoor : Type 0 → Type 0
TcpDoor R = ListenDoor R TcpListener

-- a connection of such a door
abbrev pub TcpLine : Type 0
TcpLine = BufferedLine (Connection TcpStream)

-- what a connection reports
abbrev pub tcp_line_seen : TcpLine → LineSeen
tcp_line_seen line = record { read = line.line.read; written = line.line.written; ended = line.line.ended; fault = line.line.fault }

-- A door at a later moment: it has the same listener, and the same number of connections in all.
abbrev pub IsSameDoor : {R : Type 0} → TcpDoor R → TcpDoor R → Type 0
IsSameDoor first last = (last.listener ≡ first.listener)
    × (in_all last.left last.is_out last.over ≡ in_all first.left first.is_out first.over)

-- the settings of a run by these options
abbrev pub settings_of : Options → Settings
settings_of options = record
    { seats = options.seats; max_job_size = options.max_job_size; max_jobs = options.max_jobs; requeue_delay = options.requeue_delay }

-- A run fails if some door could not accept a connection.
abbrev pub came_of_doors : {D : Type 0} → (D → Bool) → List D → Result (Unit {0}) Fault
came_of_doors met_fault doors = if list_any met_fault doors then Err faults.NotAccepted else Ok tt

-- A run that could not begin fails too.
abbrev pub came_of_run : {D C I K : Type 0} → (D → Bool) → Result (Run D C I K) Fault → Result (Unit {0}) Fault
came_of_run met_fault (Ok run) = came_of_doors met_fault run.doors.items
came_of_run met_fault (Err fault) = Err fault

-- So does a loop that was broken off.
abbrev pub came_of_loop : {L D C I K : Type 0} → (D → Bool) → Result (EventLoopRun L D C I K) Fault → Result (Unit {0}) Fault
came_of_loop met_fault (Ok run) = if run.is_over then came_of_doors met_fault run.doors.items else Err faults.TooManyTurns
came_of_loop met_fault (Err fault) = Err fault

-- A door of a server: it is at this listener, and accepts this number of connections in all.
pub record IsDoorAt {R : Type 0} (listener : TcpListener) (sessions : Option ℕ) (door : TcpDoor R) : Type 0 where
  pub at : door.listener.now ≡ listener
  pub allowed : in_all door.left door.is_out door.over ≡ in_all sessions false []

-- The doors of a server whose run has ended. There was a door for each seat that the options choose, all at this listener,
-- each for the number of connections that they choose. Each door is at its end with no connection out. A door whose
-- listener did not fail had exactly this number of connections.
pub record AreServedDoors {R : Type 0} (options : Options) (listener : TcpListener) (many : ℕ) (of_run : List (TcpDoor R)) : Type 0 where
  pub seats : many ≡ options.seats
  pub doors : All (λ door. IsDoorAt listener options.sessions door) of_run
  pub at_end : All (λ door. (door.is_out ≡ false) × (door.is_at_end ≡ true)) of_run
  pub all_came : All (λ door. door.met_fault ≡ false → options.sessions ≡ Some (length door.over)) of_run

-- A run of a server by threads that has ended. It began with a new clock, with these doors and this control line, and the
-- model that took its history has the settings of the options.
pub record IsServerRun {R I K : Type 0} (left : I → Option (List ℕ)) (may_fail : I → Bool)
    (core : Core K) (options : Options) (listener : TcpListener) (control : I)
    (run : Run (TcpDoor R) (TellingClock R) I K) : Type 0 where
  pub served : AreServedDoors options listener (vec_len run.doors) run.doors.items
  pub clock : TellingClock R
  pub new_clock : clock.clock.given ≡ []
  pub is_run : IsRunOf (λ before readings after. after.clock.given ≡ before.clock.given ++ readings) (λ door. door.over)
      left may_fail core.machine core.comparisons (settings_of options) clock control run

-- A run of a server by an event loop, which has ended or was broken off. It began with a new clock, with a new door at
-- this listener for each seat, and with this control line. Until now it keeps the promise of a running server. If it has
-- ended, it keeps the same as a run by threads.
pub record IsServerLoop {R I K : Type 0} (left : I → Option (List ℕ)) (may_fail : I → Bool)
    (core : Core K) (options : Options) (listener : TcpListener) (control : I)
    (run : EventLoopRun TcpLine (TcpDoor R) (TellingClock R) I K) : Type 0 where
  pub first : List (TcpDoor R)
  pub new : All (λ door. IsNewDoor (record { is_out = door.is_out; is_at_end = door.is_at_end; lines_over = door.over })) first
  pub at : All (λ door. IsDoorAt listener options.sessions door) first
  pub clock : TellingClock R
  pub new_clock : clock.clock.given ≡ []
  pub so_far : IsEventLoopSoFar (λ before readings after. after.clock.given ≡ before.clock.given ++ readings) tcp_line_seen
      (λ door. door.over) (λ door. door.is_out) IsSameDoor left may_fail core.machine core.comparisons (settings_of options)
      first clock control run
  pub served : run.is_over ≡ true → AreServedDoors options listener (vec_len run.doors) run.doors.items
  pub is_run : run.is_over ≡ true → IsEventLoopRun (λ before readings after. after.clock.given ≡ before.clock.given ++ readings)
      (λ door. door.over) left may_fail core.machine core.comparisons (settings_of options) clock control run

-- Why there may be no run: the system refused something, or the options are out of their ranges.
abbrev pub MayRefuse : Options → Fault → Type 0
MayRefuse options faults.CannotListen = Unit {0}
MayRefuse options (faults.NoMemory need) = Unit {0}
MayRefuse options faults.ThreadRefused = Unit {0}
MayRefuse options faults.EpollRefused = Unit {0}
MayRefuse options faults.BadConfiguration = are_in_range (settings_of options) ≡ false
MayRefuse options _ = ⊥

-- The status follows from what came of a server: a run for which this holds, or why there was none.
pub record IsStatusOf {S : Type 0} (IsRun : S → Type 0) (came_of : Result S Fault → Result (Unit {0}) Fault) (options : Options)
    (status : ℕ) : Type 0 where
  pub came : Result S Fault
  pub served : IfOk came IsRun
  pub refused : IfErr came (λ fault. MayRefuse options fault)
  pub status_is : status ≡ status_of_server (came_of came)

-- what came of a server at this listener, served by threads
abbrev pub IsStatusOfThreads : (R : Type 0) {I K : Type 0} → (I → Option (List ℕ)) → (I → Bool) → Core K
    → Options → TcpListener → I → ℕ → Type 0
IsStatusOfThreads R {I} {K} left may_fail core options listener control =
    IsStatusOf {S = Run (TcpDoor R) (TellingClock R) I K}
    (λ run. IsServerRun left may_fail core options listener control run) (came_of_run (λ door. door.met_fault)) options

-- the same for a server by an event loop
abbrev pub IsStatusOfLoop : (R : Type 0) {I K : Type 0} → (I → Option (List ℕ)) → (I → Bool) → Core K
    → Options → TcpListener → I → ℕ → Type 0
IsStatusOfLoop R {I} {K} left may_fail core options listener control =
    IsStatusOf {S = EventLoopRun TcpLine (TcpDoor R) (TellingClock R) I K}
    (λ run. IsServerLoop left may_fail core options listener control run) (came_of_loop (λ door. door.met_fault)) options

-- The status follows from what came of a server at this listener, by the engine that the options choose.
pub record IsStatusOfServer (R : Type 0) {I K : Type 0} (left : I → Option (List ℕ)) (may_fail : I → Bool)
    (core : Core K) (options : Options) (listener : TcpListener) (control : I) (status : ℕ) : Type 0 where
  pub by_loop : options.event_loop ≡ true → IsStatusOfLoop R left may_fail core options listener control status
  pub by_threads : options.event_loop ≡ false → IsStatusOfThreads R left may_fail core options listener control status

-- The status of a server, or 1 if its last door failed before its control line ended.
abbrev pub IsStatusOrOne : (R : Type 0) {I K : Type 0} → (I → Option (List ℕ)) → (I → Bool) → Core K
    → Options → TcpListener → I → ℕ → Type 0
IsStatusOrOne R left may_fail core options listener control status =
    (status ≡ 1) ⊎ (IsStatusOfServer R left may_fail core options listener control status × (status ≤ 1))

-- None: the address could not be bound or memory for the control line could not be allocated; no clause says whether
-- that is so. Otherwise a server began at some listener, with a control line over this input.
abbrev pub IsStatusOfBegun : (R : Type 0) {I K : Type 0} → (I → Option (List ℕ)) → (I → Bool) → Core K
    → Options → Option (List ℕ) → Option (TcpListener × I) → ℕ → Type 0
IsStatusOfBegun R left may_fail core options input None status = status ≡ 1
IsStatusOfBegun R left may_fail core options input (Some begun) status =
    (left begun.1 ≡ input) × IsStatusOfServer R left may_fail core options begun.0 begun.1 status

-- The status follows from what came of a program that listens and serves by these options. No clause says which listener
-- the system returned for their address.
abbrev pub IsStatusOfListening : (R : Type 0) {I K : Type 0} → (I → Option (List ℕ)) → (I → Bool) → Core K
    → Options → Option (List ℕ) → ℕ → Type 0
IsStatusOfListening R {I} left may_fail core options input status =
    (begun : Option (TcpListener × I)) × IsStatusOfBegun R left may_fail core options input begun status

-- Words with no options are a fault. Otherwise the program listens and serves by their options.
abbrev pub IsStatusOfWords : (R : Type 0) {I K : Type 0} → (I → Option (List ℕ)) → (I → Bool) → Core K
    → Option (List ℕ) → Result BqdOptions OptionFault → ℕ → Type 0
IsStatusOfWords R left may_fail core input (Err fault) status = IsStatusOfOptionFault fault status
IsStatusOfWords R left may_fail core input (Ok chosen) status =
    IsForBqd chosen × IsStatusOfListening R left may_fail core (of_bqd chosen) input status

-- The status follows from the words of the command line. No clause says which words were given, so every status up to 2 is
-- possible for some words.
abbrev pub IsStatusOfProgram : (R : Type 0) {I K : Type 0} → (I → Option (List ℕ)) → (I → Bool) → Core K → Option (List ℕ) → ℕ → Type 0
IsStatusOfProgram R left may_fail core input status =
    (chosen : Result BqdOptions OptionFault) × IsStatusOfWords R left may_fail core input chosen status
