-- Values, and what others have at the same instants.
use Rattle.std.specs.Prelude.{ℕ, ◌≤◌, List, take, length, Option, Some, None, option_map, if◌then◌else◌}
use Rattle.graphite_time.specs.Interval.{start_of, end_of, holds}
use Rattle.graphite_part.specs.declared.piece.Piece.{Piece}
use Rattle.graphite_part.specs.Pieces.{value_at, last_end}
use Rattle.graphite_part.specs.Fills.{Filled}

-- at each instant at which f has a value: that value, with what g has then
abbrev pub beside : {X Y : Type 0} → (ℕ → Option X) → (ℕ → Option Y) → ℕ → Option (X × Option Y)
beside f g t = option_map (λ x. (x, g t)) (f t)

-- for private functions and proofs alone, from here on

-- the value of a piece at the instants that it holds, and nothing at all others
abbrev pub held : {Y : Type 0} → Option (Piece Y) → ℕ → Option Y
held None t = None
held (Some piece) t = if holds piece.over t then Some piece.value else None

-- the first pieces end at or before the instant
pub record ArePast {Y : Type 0} (pieces : List (Piece Y)) (place t : ℕ) : Type 0 where
  pub within : place ≤ length pieces
  pub ended : last_end (take place pieces) ≤ t

-- a piece was written behind the old ones, with the values of others beside its own, of which the first ones are past its end
pub record PieceBeside {X Y : Type 0} (others : List (Piece Y)) (old new : List (Piece (X × Option Y))) (piece : Piece X) (place : ℕ) : Type 0 where
  pub filled : Filled (λ t. Some (piece.value, value_at others t)) old new (start_of piece.over) (end_of piece.over)
  pub past : ArePast others place (end_of piece.over)
