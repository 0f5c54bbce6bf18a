-- For proofs and private functions alone: the pairs of a time and a cost.
use Rattle.std.specs.Prelude.{ℕ, List, Option, Some, None, unwrap_or, if◌then◌else◌}
use Rattle.graphite_time.specs.declared.interval.Interval.{Interval}
use Rattle.graphite_time.specs.Life.{is_held}
use Rattle.graphite_part.specs.declared.piece.Piece.{Piece}
use Rattle.graphite_part.specs.Pieces.{value_at}

-- the pair of both values at each instant of a life, each of them 1 where there is none
abbrev pub paired : List Interval → List (Piece ℕ) → List (Piece ℕ) → ℕ → Option (ℕ × ℕ)
paired life times costs t =
    if is_held life t then Some (unwrap_or (value_at times t) 1, unwrap_or (value_at costs t) 1) else None
