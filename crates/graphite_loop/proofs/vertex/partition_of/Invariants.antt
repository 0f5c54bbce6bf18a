-- The pieces so far were put in.
use Rattle.std.proofs.Common.{◌≡◌, take}
use Rattle.graphite_loop.proofs.vertex.partition_of.Given as goal

abbrev pub invariant-loop-piece : goal.invariant-loop-piece
invariant-loop-piece g l = l.partition ≡ take l.piece-index l.pieces
