use Rattle.std.proofs.Common.{◌∙◌, ap}
use Rattle.bq_event_loop.specs.Listings.{all_free}
use Rattle.bq_event_loop.proofs.KnownLemmas.{all_known}
use Rattle.bq_event_loop.proofs.order.Order.new.Goals as goal

pub returns : goal.returns
returns c = record { knows = all_known c.args.seats c.in-Ok.queue (c.in-Ok.ensures ∙ ap all_free c.from.ensures) }
