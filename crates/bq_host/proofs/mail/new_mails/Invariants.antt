use Rattle.std.proofs.Common.{◌≡◌, ◌≤◌, [], replicate, vec_capacity}
use Rattle.bq_host.proofs.mail.new_mails.Given as goal

abbrev pub invariant-loop : goal.invariant-loop
invariant-loop l = record {
  made : l.mails.items ≡ replicate l.counter [];
  room : l.fn.seats ≤ vec_capacity l.mails;
  within : l.counter ≤ l.fn.seats;
}
