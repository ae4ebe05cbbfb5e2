-- How lines on standard error begin.
use Rattle.std.specs.Prelude.{ℕ, List, [], codes}
use Rattle.bq_program.specs.declared.log_form.LogForm.{LogForm}
use Rattle.bq_program.specs.declared.log_form.LogForm.TheVariants as forms
use Rattle.bq_program.specs.declared.log_form.Severity.{Severity}
use Rattle.bq_program.specs.declared.log_form.Severity.TheVariants as severities

-- the priority of a line, as the journal reads it: sd-daemon(3) has the numbers
abbrev pub priority_of : Severity → List ℕ
priority_of severities.Error = codes "<3>"
priority_of severities.Warning = codes "<4>"
priority_of severities.Info = codes "<6>"

-- what a line has before the program's name
abbrev pub prefix_of : LogForm → Severity → List ℕ
prefix_of forms.Plain severity = []
prefix_of forms.Journal severity = priority_of severity
