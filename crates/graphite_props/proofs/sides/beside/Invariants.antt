use Rattle.graphite_props.proofs.BesideLemmas.{AreBeside}
use Rattle.graphite_props.proofs.sides.beside.Given as goal

abbrev pub invariant-loop-piece : goal.invariant-loop-piece
invariant-loop-piece g l = AreBeside l.base l.others l.out l.piece-index l.place
