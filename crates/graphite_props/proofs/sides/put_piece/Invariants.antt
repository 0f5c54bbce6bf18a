use Rattle.std.proofs.Common.{length, ◌-◌}
use Rattle.graphite_props.proofs.BesideLemmas.{Putting}
use Rattle.graphite_props.proofs.sides.put_piece.Given as goal

abbrev pub invariant-loop-piece : goal.invariant-loop-piece
invariant-loop-piece g l = Putting l.others l.initial.out l.out l.fn.piece l.place l.from

abbrev pub decreases-loop-piece : goal.decreases-loop-piece
decreases-loop-piece g l = length l.others - l.place
