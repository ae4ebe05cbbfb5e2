use Rattle.std.proofs.Common.{rules}
use Rattle.bq_jobs.proofs.FreeLemmas.{name_at}
use Rattle.bq_jobs.proofs.slots.is_named.Goals as goal

pub returns-in-Some-name : goal.returns-in-Some-name
returns-in-Some-name g c = search (rules, name_at)
