-- When the control line is read, and how far.
use Rattle.std.specs.Prelude.{ℤ, ◌≡◌, Option, Some, None}
use Rattle.bq_event_loop.specs.declared.control_watch.ControlCame.{ControlCame}
use Rattle.bq_event_loop.specs.declared.control_watch.ControlKnown.{ControlKnown}
use Rattle.bq_event_loop.specs.declared.control_watch.ControlKnown.TheVariants as knowns
use Rattle.bq_event_loop.specs.declared.control_watch.ControlWatch.{ControlWatch}
use Rattle.bq_event_loop.specs.declared.control_watch.ControlWatch.TheVariants as watches
use Rattle.bq_event_loop.specs.declared.turns.ControlReads.{ControlReads}
use Rattle.bq_event_loop.specs.declared.turns.ControlReads.TheVariants as extents
use Rattle.bq_event_loop.specs.declared.turns.ControlStands.{ControlStands}
use Rattle.bq_event_loop.specs.declared.turns.ControlStands.TheVariants as stands

-- A control line that begins: its reader may hold bytes, and the system has reported nothing of it.
-- It is not watched if it has no descriptor, or the system can't watch it.
abbrev pub IsNewWatch : Option ℤ → ControlWatch → Type 0
IsNewWatch source watches.Whole = Unit {0}
IsNewWatch (Some fd) (watches.Watched of knowns.New) = of ≡ fd
IsNewWatch source watch = ⊥

-- How far a watched control line is read. A read that may block is made only after a report. Before
-- the first report its reader is emptied.
abbrev pub reads_at : ControlKnown → ControlStands → Option ControlReads
reads_at (knowns.HasCome came) standing = Some extents.Once
reads_at knowns.New standing = Some extents.Buffered
reads_at knowns.Waits stands.Owes = Some extents.Buffered
reads_at knowns.Waits standing = None

-- How far the control line is read, if at all.
abbrev pub reads_of : ControlWatch → ControlStands → Option ControlReads
reads_of watches.Whole standing = Some extents.ToEnd
reads_of (watches.Watched fd known) standing = reads_at known standing
reads_of watches.Over standing = None

-- what is known after a report
abbrev pub after_report : ControlCame → ControlWatch → ControlWatch
after_report came (watches.Watched fd known) = watches.Watched fd (knowns.HasCome came)
after_report came watch = watch

-- what is known after the control line was read
abbrev pub after_turn : ControlWatch → ControlStands → ControlWatch
after_turn watch stands.Over = watches.Over
after_turn (watches.Watched fd known) standing = watches.Watched fd knowns.Waits
after_turn watch standing = watch
