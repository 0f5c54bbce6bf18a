use Rattle.std.proofs.Common.{◌≡◌, ◌++◌, map, take}
use Rattle.graphite_hops.specs.Arcs.{arc_between}
use Rattle.graphite_hops.proofs.arcs.add_pieces.Given as goal

abbrev pub invariant-loop-piece : goal.invariant-loop-piece
invariant-loop-piece l =
    l.arcs.items ≡ l.initial.arcs.items ++ map (arc_between l.e l.ends) (take l.piece-index l.pieces)
