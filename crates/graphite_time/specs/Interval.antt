-- What an interval is: the instants from its start up to its end, the end not among them.
use Rattle.std.specs.Prelude.{ℕ, Bool, ◌&&◌, nat_le, nat_lt}
use Rattle.graphite_time.specs.declared.interval.Interval.{Interval}

-- the first instant
abbrev pub start_of : Interval → ℕ
start_of over = over.a

-- the instant after the last
abbrev pub end_of : Interval → ℕ
end_of over = over.b

-- whether the instant is one of the interval's
abbrev pub holds : Interval → ℕ → Bool
holds over t = nat_le over.a t && nat_lt t over.b
