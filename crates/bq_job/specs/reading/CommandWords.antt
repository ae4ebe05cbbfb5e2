-- The words of the commands.
use Rattle.std.specs.Prelude.{ℕ, List, [], ◌∷◌, Option, codes, find}
use Rattle.bq_job.specs.reading.TubeName.{is_same_name}

-- the commands of a client
pub data Command : Type 0 where
  Put : Command
  Reserve : Command
  ReserveWithTimeout : Command
  ReserveJob : Command
  Delete : Command
  Release : Command
  Bury : Command
  Touch : Command
  Kick : Command
  KickJob : Command
  Use : Command
  ListTubeUsed : Command
  Watch : Command
  Ignore : Command
  Peek : Command
  PeekReady : Command
  PeekDelayed : Command
  PeekBuried : Command
  PauseTube : Command
  StatsJob : Command
  StatsTube : Command
  Stats : Command
  ListTubes : Command
  ListTubesWatched : Command
  Quit : Command

abbrev pub word_of : Command → List ℕ
word_of Put = codes "put"
word_of Reserve = codes "reserve"
word_of ReserveWithTimeout = codes "reserve-with-timeout"
word_of ReserveJob = codes "reserve-job"
word_of Delete = codes "delete"
word_of Release = codes "release"
word_of Bury = codes "bury"
word_of Touch = codes "touch"
word_of Kick = codes "kick"
word_of KickJob = codes "kick-job"
word_of Use = codes "use"
word_of ListTubeUsed = codes "list-tube-used"
word_of Watch = codes "watch"
word_of Ignore = codes "ignore"
word_of Peek = codes "peek"
word_of PeekReady = codes "peek-ready"
word_of PeekDelayed = codes "peek-delayed"
word_of PeekBuried = codes "peek-buried"
word_of PauseTube = codes "pause-tube"
word_of StatsJob = codes "stats-job"
word_of StatsTube = codes "stats-tube"
word_of Stats = codes "stats"
word_of ListTubes = codes "list-tubes"
word_of ListTubesWatched = codes "list-tubes-watched"
word_of Quit = codes "quit"

abbrev pub all_commands : List Command
all_commands =
    Put ∷ Reserve ∷ ReserveWithTimeout ∷ ReserveJob ∷ Delete ∷ Release ∷ Bury ∷ Touch ∷ Kick ∷ KickJob
    ∷ Use ∷ ListTubeUsed ∷ Watch ∷ Ignore ∷ Peek ∷ PeekReady ∷ PeekDelayed ∷ PeekBuried ∷ PauseTube
    ∷ StatsJob ∷ StatsTube ∷ Stats ∷ ListTubes ∷ ListTubesWatched ∷ Quit ∷ []

-- the command that a word names; upper and lower case differ
abbrev pub command_named : List ℕ → Option Command
command_named word = find (λ c. is_same_name word (word_of c)) all_commands
