-- The pieces so far, from the last one on, were mirrored.
use Rattle.std.proofs.Common.{◌≡◌, length, map, reverse, take}
use Rattle.graphite_part.specs.Calls.{mirrored_piece}
use Rattle.graphite_part.proofs.mirror.mirrored_pieces.Given as goal

abbrev pub invariant-loop-piece : goal.invariant-loop-piece
invariant-loop-piece g l = l.out.items ≡ map (mirrored_piece l.h) (take (length l.yielded) (reverse l.pieces))
