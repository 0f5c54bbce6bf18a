-- What lies between of the pieces so far was copied.
use Rattle.std.proofs.Common.{take}
use Rattle.graphite_part.specs.Fills.{Copied}
use Rattle.graphite_part.proofs.fill.copy_between.Given as goal

-- what lies between of the pieces so far was copied
abbrev pub invariant-loop-piece : goal.invariant-loop-piece
invariant-loop-piece g l = Copied (take l.piece-index l.pieces) l.initial.out.items l.out.items l.from l.until
