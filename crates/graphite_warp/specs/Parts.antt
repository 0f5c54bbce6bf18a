-- For private functions and proofs alone: the parts of states between two changes of the notes.
use Rattle.std.specs.Prelude.{ℕ, ◌<◌, ◌≤◌, List, map, length, slice_index_or}
use Rattle.std.specs.declared.cmp.Ordering.{Ordering}
use Rattle.graphite_time.specs.Interval.{start_of}
use Rattle.graphite_part.specs.declared.piece.Piece.{Piece}
use Rattle.graphite_part.specs.Pieces.{IsChain}
use Rattle.graphite_warp.specs.declared.message.Message.{Message}
use Rattle.graphite_warp.specs.Sweep.{IsGroup}
use Rattle.graphite_warp.specs.Warp.{notes_at}

-- a part with the notes that hold its first instant
abbrev pub triple_of : {S M : Type 0} → (M → M → Ordering) → List (Message M) → Piece S → Piece (S × List M)
triple_of cmp messages part = record { over = part.over; value = (part.value, notes_at cmp messages (start_of part.over)) }

abbrev pub triples_of : {S M : Type 0} → (M → M → Ordering) → List (Message M) → List (Piece S) → List (Piece (S × List M))
triples_of cmp messages parts = map (triple_of cmp messages) parts

-- parts of which the first ones were handed out, and the group of the last of these, which can move on to the next
pub record IsCarried {S M : Type 0} (cmp : M → M → Ordering) (starts stops : List (Message M)) (parts : List (Piece S)) (place : ℕ) (notes : List M) (begun ended at : ℕ) : Type 0 where
  pub group : IsGroup cmp starts stops notes begun ended at
  pub chain : IsChain (triples_of cmp starts parts)
  pub next : (d : Piece S) → place < length parts → at ≤ start_of (slice_index_or parts place d).over
