use Rattle.std.proofs.{Common.{not, rules}, lemmas.Fn.filter_same}
use Rattle.bq_job.specs.reading.TubeName.{is_same_name}
use Rattle.bq_state.proofs.TubeLemmas.{some_left}
use Rattle.bq_state.proofs.watch_list.keep_others.Goals as goal

pub returns-clause-kept : goal.returns-clause-kept
returns-clause-kept c = filter_same _ (λ other. not (is_same_name c.args.name.now other)) _
    (λ x b f h. search rules) _ _ c.retain.ensures.filtered

pub returns-clause-some : goal.returns-clause-some
returns-clause-some c = rw (returns-clause-kept c) (some_left (λ other. not (is_same_name c.args.name.now other)) _ c.requires.other)
