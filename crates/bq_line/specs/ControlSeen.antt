-- What is read from a control line.
use Rattle.std.specs.Prelude.{ℕ, ◌≡◌, Bool, true, false, List, [], ◌∷◌, ◌++◌, Option, IfSome}
use Rattle.std.specs.Io.KnownBytes.{Consumes, IsAtEnd}
use Rattle.bq_line.specs.declared.control_line.Heard.{Heard}
use Rattle.bq_line.specs.declared.control_line.Heard.TheVariants as hears

-- What a control line records: the bytes that were read, whether a read met the end, and whether
-- one failed.
pub record ControlSeen : Type 0 where
  pub text : List ℕ
  pub ended : Bool
  pub failed : Bool

-- a control line of which nothing was read
abbrev pub new_control : ControlSeen
new_control = record { text = []; ended = false; failed = false }

-- Each flag is set only by the read that it records.
abbrev pub after_heard : Heard → ControlSeen → ControlSeen
after_heard (hears.Byte byte) seen = record seen { text = seen.text ++ byte ∷ [] }
after_heard hears.NothingYet seen = seen
after_heard hears.End seen = record seen { ended = true }
after_heard hears.Fault seen = record seen { failed = true }

-- What a read took of the bytes that are left, if they are known: the byte that it returned, or
-- none. The end is returned only if none are left.
abbrev pub HasHeard : Option (List ℕ) → Option (List ℕ) → Heard → Type 0
HasHeard before after (hears.Byte byte) = Consumes before after (byte ∷ [])
HasHeard before after hears.NothingYet = Consumes before after []
HasHeard before after hears.End = Consumes before after [] × IfSome before (λ bytes. IsAtEnd after)
HasHeard before after hears.Fault = Consumes before after []

-- A reader returns a fault only if a read of it may fail.
abbrev pub MayHear : Bool → Heard → Type 0
MayHear may_fail hears.Fault = may_fail ≡ true
MayHear may_fail _ = Unit {0}
