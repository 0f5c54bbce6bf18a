-- For `append`, private functions and proofs: what is written at the end of a list of pieces.
use Rattle.std.specs.Prelude.{◌≡◌, ℕ, ◌-◌, ◌<◌, ◌≤◌, max, min, ◌&&◌, if◌then◌else◌, List, [], ◌∷◌, Option, Some, length, slice_get}
use Rattle.graphite_time.specs.declared.interval.Interval.{Interval}
use Rattle.graphite_time.specs.Interval.{start_of, end_of, holds}
use Rattle.graphite_part.specs.declared.piece.Piece.{Piece}
use Rattle.graphite_part.specs.Pieces.{value_at, AreRuns, IsChain, last_end, painted}

-- the last piece ends at the instant, with this value
abbrev pub EndsWith : {X : Type 0} → List (Piece X) → ℕ → X → Type 0
EndsWith [] t value = ⊥
EndsWith (piece ∷ []) t value = (end_of piece.over ≡ t) × (piece.value ≡ value)
EndsWith (piece ∷ next ∷ pieces) t value = EndsWith (next ∷ pieces) t value

-- the last piece touches the interval with its value, and the longer interval is that piece's with it
pub record Lengthens {X : Type 0} (pieces : List (Piece X)) (over : Interval) (value : X) (longer : Interval) : Type 0 where
  pub last : Piece X
  pub is_last : slice_get pieces (length pieces - 1) ≡ Some last
  pub touches : end_of last.over ≡ start_of over
  pub same : last.value ≡ value
  pub start : start_of longer ≡ start_of last.over
  pub end : end_of longer ≡ end_of over

-- the new pieces are the old ones painted over an interval, at whose end they end
pub record Pushed {X : Type 0} (old new : List (Piece X)) (over : Interval) (value : X) : Type 0 where
  pub runs : AreRuns (painted (value_at old) over value) new
  pub end : last_end new ≡ end_of over

-- the new pieces have the values of g from one instant up to another, where they end, and the old values before
pub record Filled {X : Type 0} (g : ℕ → Option X) (old new : List (Piece X)) (from until : ℕ) : Type 0 where
  pub in_order : IsChain new
  pub within : last_end new ≤ until
  pub before : (t : ℕ) → t < from → value_at new t ≡ value_at old t
  pub inside : (t : ℕ) → from ≤ t → t < until → value_at new t ≡ g t

-- what of these pieces lies between two instants was copied behind the old ones
pub record Copied {X : Type 0} (pieces old new : List (Piece X)) (from until : ℕ) : Type 0 where
  pub filled : Filled (value_at pieces) old new from until
  pub short : last_end new ≤ max from (last_end pieces)

-- the pair of two values was pushed behind the old pieces, at the instants that both hold
pub record PairPushed {X Y : Type 0} (old new : List (Piece (X × Y))) (x : Piece X) (y : Piece Y) : Type 0 where
  pub runs : AreRuns (λ t. if holds x.over t && holds y.over t then Some (x.value, y.value) else value_at old t) new
  pub end : last_end new ≤ max (last_end old) (min (end_of x.over) (end_of y.over))
