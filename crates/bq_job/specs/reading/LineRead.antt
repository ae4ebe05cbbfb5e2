-- What a command line requests.
use Rattle.std.specs.Prelude.{ℕ, nat_lt, List, [], ◌∷◌, Option, Some, None, length, option_map, unwrap_or, if◌then◌else◌}
use Rattle.bq_job.specs.declared.{refusal.Refusal.TheVariants.{BadFormat, UnknownCommand}, request.Request.Request}
use Rattle.bq_job.specs.reading.{CommandWords.{Command, command_named}, Words.{job_id, number, tube_name, words}}
use Rattle.bq_job.specs.declared.request.Request.TheVariants as requests

-- the numbers on the command line of a put, as written: priority, delay, time to run, and the
-- number of bytes in the body
pub record PutLine : Type 0 where
  pub pri : ℕ
  pub delay : ℕ
  pub ttr : ℕ
  pub bytes : ℕ

-- a command line is a complete request, or a put whose body follows
pub data LineRead : Type 0 where
  Whole : Request → LineRead
  PutWaits : PutLine → LineRead

-- What the words after a command must be. None means BAD_FORMAT.

abbrev pub no_words : Request → List (List ℕ) → Option LineRead
no_words request [] = Some (Whole request)
no_words request (word ∷ more) = None

abbrev pub one_word : {A : Type 0} → (List ℕ → Option A) → (A → Request) → List (List ℕ) → Option LineRead
one_word read request [] = None
one_word read request (word ∷ []) = option_map (λ a. Whole (request a)) (read word)
one_word read request (word ∷ next ∷ more) = None

abbrev pub both : {A B : Type 0} → Option A → Option B → (A → B → Request) → Option LineRead
both (Some a) (Some b) request = Some (Whole (request a b))
both _ _ request = None

abbrev pub two_words : {A B : Type 0} → (List ℕ → Option A) → (List ℕ → Option B) → (A → B → Request) → List (List ℕ) → Option LineRead
two_words read next request (first ∷ second ∷ []) = both (read first) (next second) request
two_words read next request _ = None

abbrev pub all_three : Option ℕ → Option ℕ → Option ℕ → (ℕ → ℕ → ℕ → Request) → Option LineRead
all_three (Some a) (Some b) (Some c) request = Some (Whole (request a b c))
all_three _ _ _ request = None

abbrev pub release_words : List (List ℕ) → Option LineRead
release_words (id ∷ pri ∷ delay ∷ []) = all_three (job_id id) (number pri) (number delay) requests.Release
release_words _ = None

abbrev pub put_of : Option ℕ → Option ℕ → Option ℕ → Option ℕ → Option LineRead
put_of (Some pri) (Some delay) (Some ttr) (Some bytes) =
    Some (PutWaits (record { pri = pri; delay = delay; ttr = ttr; bytes = bytes }))
put_of _ _ _ _ = None

abbrev pub put_words : List (List ℕ) → Option LineRead
put_words (pri ∷ delay ∷ ttr ∷ bytes ∷ []) = put_of (number pri) (number delay) (number ttr) (number bytes)
put_words _ = None

abbrev pub read_words : Command → List (List ℕ) → Option LineRead
read_words Command.Put = put_words
read_words Command.Reserve = no_words requests.Reserve
read_words Command.ReserveWithTimeout = one_word number requests.ReserveWithTimeout
read_words Command.ReserveJob = one_word job_id requests.ReserveJob
read_words Command.Delete = one_word job_id requests.Delete
read_words Command.Release = release_words
read_words Command.Bury = two_words job_id number requests.Bury
read_words Command.Touch = one_word job_id requests.Touch
read_words Command.Kick = one_word number requests.Kick
read_words Command.KickJob = one_word job_id requests.KickJob
read_words Command.Use = one_word tube_name requests.Use
read_words Command.ListTubeUsed = no_words requests.ListTubeUsed
read_words Command.Watch = one_word tube_name requests.Watch
read_words Command.Ignore = one_word tube_name requests.Ignore
read_words Command.Peek = one_word job_id requests.Peek
read_words Command.PeekReady = no_words requests.PeekReady
read_words Command.PeekDelayed = no_words requests.PeekDelayed
read_words Command.PeekBuried = no_words requests.PeekBuried
read_words Command.PauseTube = two_words tube_name number requests.PauseTube
read_words Command.StatsJob = one_word job_id requests.StatsJob
read_words Command.StatsTube = one_word tube_name requests.StatsTube
read_words Command.Stats = no_words requests.Stats
read_words Command.ListTubes = no_words requests.ListTubes
read_words Command.ListTubesWatched = no_words requests.ListTubesWatched
read_words Command.Quit = no_words requests.Quit

abbrev pub bad_format : LineRead
bad_format = Whole (requests.Refused BadFormat)

abbrev pub unknown_command : LineRead
unknown_command = Whole (requests.Refused UnknownCommand)

-- if the first word names no command, or is empty, the line is UNKNOWN_COMMAND, whatever follows
abbrev pub read_command : Option Command → List (List ℕ) → LineRead
read_command None more = unknown_command
read_command (Some command) more = unwrap_or (read_words command more) bad_format

abbrev pub read_line_words : List (List ℕ) → LineRead
read_line_words [] = unknown_command
read_line_words (first ∷ more) = read_command (command_named first) more

-- the greatest length of a command line, in bytes, without its CR LF
abbrev pub longest_line : ℕ
longest_line = 222

-- What a command line requests. A command line that is too long is BAD_FORMAT, whatever it
-- contains.
abbrev pub read_line : List ℕ → LineRead
read_line line =
    let read = read_line_words (words line) in
    if nat_lt longest_line (length line) then bad_format else read
