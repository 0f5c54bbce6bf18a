-- For proofs and private functions alone: which hops can be the last one of a best journey, or the first of a latest one.
use Rattle.std.specs.Prelude.{ℕ, Bool, false, ◌+◌, ◌==◌, ◌&&◌, nat_le, is_some, List, Option, None, Some}
use Rattle.graphite_time.specs.Interval.{holds}
use Rattle.graphite_part.specs.declared.piece.Piece.{Piece}
use Rattle.graphite_api.specs.declared.arc.Arc.{Arc}
use Rattle.graphite_api.specs.declared.kind.Kind.{Kind}
use Rattle.graphite_api.specs.Hop.{Hop}
use Rattle.graphite_api.specs.TableHops.{hop_along}
use Rattle.graphite_api.specs.Written.{value_after}
use Rattle.graphite_witness.specs.Answered.{value_for}

-- a value, if there is one, becomes x by the hop
abbrev pub becomes : Kind → (x : ℕ) → Hop → Option ℕ → Bool
becomes kind x hop None = false
becomes kind x hop (Some y) = value_after kind y hop == x

-- The hop along the arc at d can be the last one of a best journey, for an instant t whose best value is x: it arrives in
-- the lifespan that t is in, and not after t, and makes x of the best value before it.
abbrev pub can_end : List (List (Piece (Option ℕ))) → Kind → (t x : ℕ) → Arc → (d : ℕ) → Bool
can_end values kind t x arc d =
    holds arc.over d && holds arc.stay t && nat_le (d + arc.time) t && becomes kind x (hop_along arc d) (value_for values arc.from d)

-- the hop along the arc at x, which is the latest departure, can be the first one: there is a value where and when it arrives
abbrev pub can_begin : List (List (Piece (Option ℕ))) → (x : ℕ) → Arc → Bool
can_begin values x arc = holds arc.over x && is_some (value_for values arc.to (x + arc.time))
