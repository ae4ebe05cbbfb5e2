-- Holders of jobs, by the names of tubes.
use Rattle.bq_jobs.specs.declared.named_group.Named.{Named}
use Rattle.bq_jobs.specs.declared.named_group.Named.TheVariants as named
use Rattle.bq_jobs.specs.declared.places.Holder.{Holder}
use Rattle.bq_jobs.specs.declared.places.Holder.TheVariants as holders
use Rattle.bq_jobs.specs.Places.{held_by, list_of}

abbrev pub holder_named : Named → Holder
holder_named (named.Held seat) = held_by seat
holder_named (named.Listed list tube) = list_of tube list

-- and the reverse
abbrev pub named_holder : Holder → Named
named_holder (holders.Held seat) = named.Held seat
named_holder (holders.Listed l) = named.Listed l.list l.tube
