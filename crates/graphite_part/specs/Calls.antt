-- What the calls of a partition make of its values, instant by instant.
use Rattle.std.specs.Prelude.{◌≡◌, ℕ, nat_lt, if◌then◌else◌, List, map, reverse, Option, Some, None, IsSomeAnd}
use Rattle.std.specs.Option.{option_zip}
use Rattle.graphite_time.specs.declared.interval.Interval.{Interval}
use Rattle.graphite_time.specs.Interval.{holds}
use Rattle.graphite_time.specs.Mirror.{mirrored, mirrored_interval}
use Rattle.graphite_part.specs.declared.piece.Piece.{Piece}
use Rattle.graphite_part.specs.Pieces.{value_at, IsChain}

-- nothing at the instants of an interval, and f at all others
abbrev pub cut_out : {X : Type 0} → (ℕ → Option X) → Interval → ℕ → Option X
cut_out f over t = if holds over t then None else f t

-- what f has at the mirrored instant, below h, and nothing from h on
abbrev pub mirrored_values : {X : Type 0} → (ℕ → Option X) → ℕ → ℕ → Option X
mirrored_values f h t = if nat_lt t h then f (mirrored h t) else None

-- For private functions and proofs: the pieces in the mirror of the instants below h, the last one first.
abbrev pub mirrored_piece : {X : Type 0} → ℕ → Piece X → Piece X
mirrored_piece h piece = record { over = mirrored_interval h piece.over; value = piece.value }

abbrev pub mirrored_list : {X : Type 0} → ℕ → List (Piece X) → List (Piece X)
mirrored_list h pieces = map (mirrored_piece h) (reverse pieces)

-- the pair of both values where both have one, and nothing elsewhere
abbrev pub zipped : {X Y : Type 0} → (ℕ → Option X) → (ℕ → Option Y) → ℕ → Option (X × Y)
zipped f g t = option_zip (f t) (g t)

-- an answer of R to the value, and none where there is no value
abbrev pub IsAnswer : {X Y : Type 0} → (X → Y → Type 0) → Option X → Option Y → Type 0
IsAnswer R None answer = answer ≡ None
IsAnswer R (Some x) answer = IsSomeAnd answer (R x)

-- the new pieces are a chain that has at each instant an answer of R to the value of the old ones
pub record AreAnswers {X Y : Type 0} (R : X → Y → Type 0) (old : List (Piece X)) (new : List (Piece Y)) : Type 0 where
  pub in_order : IsChain new
  pub values : (t : ℕ) → IsAnswer R (value_at old t) (value_at new t)
