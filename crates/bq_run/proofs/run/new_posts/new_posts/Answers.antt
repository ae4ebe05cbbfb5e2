use Rattle.bq_host.proofs.ListLemmas.{all_taken, popped_passes}
use Rattle.bq_run.specs.Threads.{IsNewEndAt}
use Rattle.bq_run.proofs.ThreadLemmas.{new_ends}
use Rattle.bq_run.proofs.run.new_posts.new_posts.Goals as goal

pub new_seats-requires-clause-new_ends : goal.new_seats-requires-clause-new_ends
new_seats-requires-clause-new_ends g c = search (all_taken, new_ends)

pub invariant_of-result : goal.invariant_of-result
invariant_of-result g c = record {
  new_end = popped_passes _ _ _ (λ e. IsNewEndAt c.args.intake.now.id e) c.in-Some.ensures.items
      (new_ends _ _ _ c.requires.ends c.requires.of_intake);
}
