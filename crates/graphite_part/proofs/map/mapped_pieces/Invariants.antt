-- The pieces so far have answers.
use Rattle.std.proofs.Common.{take}
use Rattle.graphite_part.proofs.MapLemmas.{Answered}
use Rattle.graphite_part.proofs.map.mapped_pieces.Given as goal

-- the pieces so far were answered
abbrev pub invariant-loop-piece : goal.invariant-loop-piece
invariant-loop-piece g l = Answered (goal.F-post g l.f) (take l.piece-index l.pieces) l.out.items
