-- What a list of pieces is: a value at each instant that a piece holds, and nothing elsewhere.
use Rattle.std.specs.Prelude.{◌≡◌, ◌≢◌, ℕ, ◌≤◌, if◌then◌else◌, List, [], ◌∷◌, Option, Some, None}
use Rattle.graphite_time.specs.declared.interval.Interval.{Interval}
use Rattle.graphite_time.specs.Interval.{start_of, end_of, holds}
use Rattle.graphite_time.specs.Life.{is_held}
use Rattle.graphite_part.specs.declared.piece.Piece.{Piece}
use Rattle.graphite_part.specs.Runs.{Run}

-- the value of the piece that holds the instant
abbrev pub value_at : {X : Type 0} → List (Piece X) → ℕ → Option X
value_at [] t = None
value_at (piece ∷ pieces) t = if holds piece.over t then Some piece.value else value_at pieces t

-- a piece may stand before these: it ends before the next one starts, or where that starts with another value
abbrev pub StandsBefore : {X : Type 0} → Piece X → List (Piece X) → Type 0
StandsBefore piece [] = Unit {0}
StandsBefore piece (next ∷ pieces) =
    (end_of piece.over ≤ start_of next.over) × (end_of piece.over ≡ start_of next.over → piece.value ≢ next.value)

-- rising and disjoint, and pieces that touch have different values
abbrev pub IsChain : {X : Type 0} → List (Piece X) → Type 0
IsChain [] = Unit {0}
IsChain (piece ∷ pieces) = StandsBefore piece pieces × IsChain pieces

-- the pieces are the maximal runs of f: a chain, with the value of f at every instant
pub record AreRuns {X : Type 0} (f : ℕ → Option X) (pieces : List (Piece X)) : Type 0 where
  pub in_order : IsChain pieces
  pub values : (t : ℕ) → value_at pieces t ≡ f t

-- a piece as a run
abbrev pub run_of : {X : Type 0} → Piece X → Run X
run_of piece = record { from = start_of piece.over; until = end_of piece.over; value = piece.value }

-- a piece as a run of another value
abbrev pub run_with : {X Y : Type 0} → (X → Y) → Piece X → Run Y
run_with g piece = record { from = start_of piece.over; until = end_of piece.over; value = g piece.value }

-- the instant where the last piece ends, or the one that is given
abbrev pub last_end_from : {X : Type 0} → ℕ → List (Piece X) → ℕ
last_end_from end [] = end
last_end_from end (piece ∷ pieces) = last_end_from (end_of piece.over) pieces

-- the instant where the last piece ends, or 0
abbrev pub last_end : {X : Type 0} → List (Piece X) → ℕ
last_end pieces = last_end_from 0 pieces

-- a value at the instants of an interval, and f at all others
abbrev pub painted : {X : Type 0} → (ℕ → Option X) → Interval → X → ℕ → Option X
painted f over value t = if holds over t then Some value else f t

-- a value at exactly the instants of a life
abbrev pub value_on : {X : Type 0} → List Interval → X → ℕ → Option X
value_on life value t = if is_held life t then Some value else None

-- a value over an interval
abbrev pub piece_on : {X : Type 0} → X → Interval → Piece X
piece_on value over = record { over = over; value = value }
