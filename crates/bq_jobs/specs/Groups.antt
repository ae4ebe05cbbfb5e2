-- The numbers that distinguish the holders of jobs.
use Rattle.std.specs.Prelude.{ℕ, ◌+◌, ◌*◌, ◌/◌, ◌%◌, ◌==◌, if◌then◌else◌, List, [], ◌∷◌}
use Rattle.std.specs.declared.cmp.Ordering.{Ordering}
use Rattle.std.specs.Cmp.{IsTotalOrder, nat_cmp_total, on_total, then_total}
use Rattle.std.specs.Ordering.{nat_cmp, on, then_cmp}
use Rattle.bq_jobs.specs.declared.places.Holder.{Holder}
use Rattle.bq_jobs.specs.declared.places.Holder.TheVariants as holders
use Rattle.bq_jobs.specs.declared.places.JobList.{JobList}
use Rattle.bq_jobs.specs.declared.places.JobList.TheVariants as lists
use Rattle.bq_jobs.specs.Names.{name_cmp, name_total, number_in}
use Rattle.bq_jobs.specs.Places.{held_by, list_of}

abbrev pub list_number : JobList → ℕ
list_number lists.Ready = 0
list_number lists.Delayed = 1
list_number lists.Buried = 2

-- four times the number of the tube or the seat, plus the number of the list, or 3 for a seat
abbrev pub group_number : Holder → ℕ
group_number (holders.Held seat) = seat * 4 + 3
group_number (holders.Listed l) = number_in l.tube * 4 + list_number l.list

-- the holder whose number is four times n plus k
abbrev pub holder_of : ℕ → ℕ → Holder
holder_of n k =
    if k == 0 then list_of (n ∷ []) lists.Ready
    else if k == 1 then list_of (n ∷ []) lists.Delayed
    else if k == 2 then list_of (n ∷ []) lists.Buried
    else held_by n

abbrev pub group_at : ℕ → Holder
group_at number = holder_of (number / 4) (number % 4)

-- the tube of a list
abbrev pub tube_in : Holder → List ℕ
tube_in (holders.Held seat) = []
tube_in (holders.Listed l) = l.tube

-- by number, then by tube; the number already determines the tube
abbrev pub group_cmp : Holder → Holder → Ordering
group_cmp = then_cmp (on group_number nat_cmp) (on tube_in name_cmp)

pub group_total : IsTotalOrder group_cmp
group_total = then_total (on_total group_number nat_cmp_total) (on_total tube_in name_total)
