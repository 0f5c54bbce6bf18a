-- A piece was made for each lifespan so far.
use Rattle.std.proofs.Common.{◌≡◌, map, take}
use Rattle.graphite_part.specs.Pieces.{piece_on}
use Rattle.graphite_part.proofs.partition.pieces_on.Given as goal

abbrev pub invariant-loop-over : goal.invariant-loop-over
invariant-loop-over g l = l.pieces.items ≡ map (piece_on l.value) (take l.over-index l.spans)
