-- For proofs and private functions alone: what is added up over the pieces of a vertex.
use Rattle.std.specs.Prelude.{ℕ, ◌-◌, ◌*◌, ◌^◌, ◌≤◌, if◌then◌else◌, Option, Some, is_some, unwrap_or, option_and_then}
use Rattle.graphite_time.specs.Interval.{start_of, end_of}
use Rattle.graphite_part.specs.declared.piece.Piece.{Piece}

-- what an instant with this value, or with nothing, counts for the instants alive, for those with a number, and for the sum
abbrev pub alive_weight : Option (Option ℕ) → ℕ
alive_weight value = if is_some value then 1 else 0

abbrev pub valued_weight : Option (Option ℕ) → ℕ
valued_weight value = if is_some (option_and_then (λ number. number) value) then 1 else 0

abbrev pub number_weight : Option (Option ℕ) → ℕ
number_weight value = unwrap_or (option_and_then (λ number. number) value) 0

-- how many instants a piece lasts
abbrev pub lasting : Piece (Option ℕ) → ℕ
lasting piece = end_of piece.over - start_of piece.over

-- what a piece counts
abbrev pub counts : (Option (Option ℕ) → ℕ) → Piece (Option ℕ) → ℕ
counts weight piece = lasting piece * weight (Some piece.value)

-- no more instants have a number than there are, and none has a greater number than fits in 64 bits
pub record AreAtMost (alive valued sum : ℕ) : Type 0 where
  pub valued_most : valued ≤ alive
  pub sum_most : sum ≤ alive * (2 ^ 64 - 1)
