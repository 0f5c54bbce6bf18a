-- The interval between two instants, and the instants that two intervals have in common.
use Rattle.std.specs.Prelude.{◌≡◌, refl, ℕ, Bool, true, false, nat_le, nat_lt, Option, Some, None, min, max}
use Rattle.std.proofs.lemmas.Bool.{leb-true, ltb-true}
use Rattle.graphite_time.specs.declared.TheConstants.{LAST}
use Rattle.graphite_time.specs.declared.interval.Interval.{Interval}
use Rattle.graphite_time.specs.Interval.{start_of, end_of}

-- the interval from a up to b, by the tests that there is one: a is before b, and b is at most LAST
abbrev pub tested : (a b : ℕ) (c d : Bool) → nat_lt a b ≡ c → nat_le b LAST ≡ d → Option Interval
tested a b true true before within = Some (record { a = a; b = b; proper = (ltb-true a b before, leb-true b LAST within) })
tested a b true false before within = None
tested a b false d before within = None

-- the interval from a up to b, where there is one
abbrev pub interval_between : ℕ → ℕ → Option Interval
interval_between a b = tested a b (nat_lt a b) (nat_le b LAST) refl refl

-- the instants that both hold: from the later start up to the earlier end, where there are any
unfoldable pub meet_of : Interval → Interval → Option Interval
meet_of x y = interval_between (max (start_of x) (start_of y)) (min (end_of x) (end_of y))
