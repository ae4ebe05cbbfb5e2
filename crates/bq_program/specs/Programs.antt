-- The names of the programs.
use Rattle.std.specs.Prelude.{ℕ, List, codes}
use Rattle.bq_program.specs.declared.program.Program.{Program}
use Rattle.bq_program.specs.declared.program.Program.TheVariants.{Bq, Bqd}

abbrev pub name_of : Program → List ℕ
name_of Bq = codes "bq"
name_of Bqd = codes "bqd"
