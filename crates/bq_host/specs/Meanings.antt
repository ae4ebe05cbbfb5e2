-- What the core and the clock of a run mean: the ghost members of their traits.
pub use Rattle.bq_line.specs.declared.clock.Clock.{Ghosts as Clock}
pub use Rattle.bq_core_api.specs.declared.queue_core.QueueCore.{Ghosts as Core}
