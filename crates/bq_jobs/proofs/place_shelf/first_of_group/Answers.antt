use Rattle.bq_jobs.proofs.GroupRanks.{rank_of_place}
use Rattle.bq_jobs.proofs.place_shelf.first_of_group.Goals as goal

pub returns-clause-rank : goal.returns-clause-rank
returns-clause-rank c = rank_of_place _ c.of-front.result _ c.in_ok-place.place _ c.of-front.ensures c.in_ok-place.ensures.key
    c.rank_in.ensures
