-- What an error of accept means for its listener.
use Rattle.std.specs.Prelude.{ℤ, ℕ, pos, Bool, false, List, [], ◌∷◌, Option, Some, None, Result, Ok, Err, ◌+◌}
use Rattle.std.specs.List.{list_any}
use Rattle.std.specs.Ordering.{int_eq}
use Rattle.std.specs.declared.io.Error.{Error}
use Rattle.std.specs.IoError.{raw_os_error}

-- the Linux error numbers that mean that the listener itself is broken: EBADF, EFAULT, EINVAL and
-- ENOTSOCK
abbrev pub listener_faults : List ℤ
listener_faults = pos 9 ∷ pos 14 ∷ pos 22 ∷ pos 88 ∷ []

abbrev pub is_listener_fault : Option ℤ → Bool
is_listener_fault None = false
is_listener_fault (Some number) = list_any (λ fault. int_eq fault number) listener_faults

-- The listener accepts no more connections. Any other error concerns one connection or is
-- temporary: it comes from the peer or the network, or from a lack of memory or descriptors.
abbrev pub ends_listener : Error → Bool
ends_listener e = is_listener_fault (raw_os_error e)

-- How many accepts in a row have failed after one more, whose result this is.
abbrev pub failures_after : {S E : Type 0} → Result (Option S) E → ℕ → ℕ
failures_after (Ok (Some connection)) failures = 0
failures_after (Ok None) failures = failures + 1
failures_after (Err e) failures = failures + 1

-- the greatest number that a count of failures reaches, 2^64 - 1
abbrev pub most_failures : ℕ
most_failures = 18446744073709551615
