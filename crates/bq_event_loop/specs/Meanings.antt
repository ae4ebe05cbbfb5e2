-- What the parts of a loop mean: the ghost members of the traits of its connections, its doors, its
-- clock, its control line and its core.
pub use Rattle.bq_line.specs.declared.line.Line.{Ghosts as Line}
pub use Rattle.bq_line.specs.declared.door.Door.{Ghosts as Door}
pub use Rattle.bq_line.specs.declared.control_line.ControlInput.{Ghosts as Control}
pub use Rattle.bq_host.specs.Meanings.{Clock, Core}
