-- The command that the first word of a command line names, and what the words after it request.
use Rattle.std.specs.Prelude.{ℕ, ◌≡◌, Bool, List, Option, Some, None, find, length, option_map}
use Rattle.std.specs.List.{filter}
use Rattle.bq_job.specs.declared.request.Request.{Request}
use Rattle.bq_job.specs.reading.CommandWords.{Command, all_commands, word_of}
use Rattle.bq_job.specs.reading.LineRead as spec
use Rattle.bq_job.specs.reading.TubeName.{is_same_name}
use Rattle.bq_wire.specs.Asked.{asked_by}
use Rattle.bq_wire.specs.declared.line_read.LineRead.{LineRead}

-- the command that a word names, among the commands whose words have this many letters
abbrev pub named_where : (ℕ → Bool) → List ℕ → Option Command
named_where letters word = find (λ c. is_same_name word (word_of c)) (filter (λ c. letters (length (word_of c))) all_commands)

-- what the words after a command's name request; None if they do not fit the command
abbrev pub command_words : Option Command → List (List ℕ) → Option spec.LineRead
command_words None more = Some spec.unknown_command
command_words (Some command) more = spec.read_words command more

-- What is read, with the request in `place`, is what this command and the words after its name
-- request.
abbrev pub AsksFor : Option Command → List (List ℕ) → Option LineRead → Request → Type 0
AsksFor command more read place = option_map (λ asked. asked_by asked place) read ≡ command_words command more
