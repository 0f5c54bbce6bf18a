-- The pieces so far were counted.
use Rattle.std.proofs.Common.{take}
use Rattle.graphite_part.proofs.CountLemmas.{BeforePiece}
use Rattle.graphite_part.proofs.counts.counted_pieces.Given as goal

-- the pieces so far were counted
abbrev pub invariant-loop-piece : goal.invariant-loop-piece
invariant-loop-piece l = BeforePiece (take l.piece-index l.pieces) l.starts l.ends l.out.items l.passed.starts l.passed.ends
