-- The pieces so far are the same.
use Rattle.std.proofs.Common.{◌≡◌, ℕ, ◌<◌, length, get_or}
use Rattle.graphite_part.specs.declared.piece.Piece.{Piece}
use Rattle.graphite_loop.proofs.PartLemmas.{AreSameTo}
use Rattle.graphite_loop.proofs.vertex.are_same.Given as goal

abbrev pub invariant-loop-place : goal.invariant-loop-place
invariant-loop-place g l = AreSameTo l.xs l.ys l.place
