-- For private functions and proofs alone: the list of pieces that a partition keeps in one of two ways.
use Rattle.std.specs.Prelude.{List, [], ◌∷◌}
use Rattle.graphite_part.specs.declared.piece.Piece.{Piece}
use Rattle.graphite_part.specs.declared.pieces.Pieces.{Pieces}
use Rattle.graphite_part.specs.declared.pieces.Pieces.TheVariants.{One, Many}

-- the pieces in order
abbrev pub items_of : {X : Type 0} → Pieces X → List (Piece X)
items_of (One alloc piece) = piece ∷ []
items_of (Many pieces) = pieces.items

-- a single piece is kept in place
abbrev pub IsInPlace : {X : Type 0} → Pieces X → Type 0
IsInPlace (One alloc piece) = Unit {0}
IsInPlace (Many pieces) = ⊥
