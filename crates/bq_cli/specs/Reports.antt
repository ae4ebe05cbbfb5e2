-- What the doors of a server report, without the system's words and the numbers that follow.
use Rattle.std.specs.Prelude.{ℕ, List, Option, Some, None, codes}
use Rattle.bq_program.specs.declared.chosen.WhenFull.{WhenFull}
use Rattle.bq_program.specs.declared.chosen.WhenFull.TheVariants as ways
use Rattle.bq_program.specs.declared.log_form.LogForm.{LogForm}
use Rattle.bq_program.specs.declared.log_form.LogForm.TheVariants as forms

-- A connection cannot be accepted.
abbrev pub refused_text : LogForm → List ℕ
refused_text forms.Plain = codes "bqd: no connection can be accepted"
refused_text forms.Journal = codes "<4>bqd: no connection can be accepted"

-- All seats are taken.
abbrev pub taken_text : LogForm → WhenFull → List ℕ
taken_text forms.Plain ways.Wait = codes "bqd: all seats are taken: further connections wait"
taken_text forms.Plain ways.Refuse = codes "bqd: all seats are taken: further connections are closed"
taken_text forms.Journal ways.Wait = codes "<4>bqd: all seats are taken: further connections wait"
taken_text forms.Journal ways.Refuse = codes "<4>bqd: all seats are taken: further connections are closed"

-- Connections were closed because all seats were taken.
abbrev pub closed_text : LogForm → List ℕ
closed_text forms.Plain = codes "bqd: connections closed because all seats were taken"
closed_text forms.Journal = codes "<4>bqd: connections closed because all seats were taken"

-- the same where connections beyond the seats are closed, and None where they wait
abbrev pub closing_text : LogForm → WhenFull → Option (List ℕ)
closing_text form ways.Wait = None
closing_text form ways.Refuse = Some (closed_text form)
