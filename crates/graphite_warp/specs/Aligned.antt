-- The triples of a vertex that are handed out one at a time.
use Rattle.std.specs.Prelude.{◌≡◌, ℕ, ◌+◌, ◌≤◌, List, length, slice_get, Option, None, Some}
use Rattle.graphite_part.specs.declared.piece.Piece.{Piece}

-- the triples, how many of them were handed out, and the notes of the last of these
pub record Aligned (S M : Type 0) : Type 0 where
  pub triples : List (Piece (S × List M))
  pub place : ℕ
  pub group : List M

-- a step: no triple is left; or the next one is the part, with the group that is at hand afterwards
abbrev pub IsNext : {S M : Type 0} → Aligned S M → Option (Piece S) → Aligned S M → Type 0
IsNext old None new = length old.triples ≤ old.place
IsNext old (Some part) new =
    (slice_get old.triples old.place ≡ Some (record { over = part.over; value = (part.value, new.group) }))
    × (new.place ≡ old.place + 1)
