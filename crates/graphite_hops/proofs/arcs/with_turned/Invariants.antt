use Rattle.std.proofs.Common.{◌≡◌, ◌++◌, map, take}
use Rattle.graphite_hops.specs.Arcs.{turned_arc}
use Rattle.graphite_hops.proofs.arcs.with_turned.Given as goal

abbrev pub invariant-loop-place : goal.invariant-loop-place
invariant-loop-place l =
    l.arcs.items ≡ l.initial.arcs.items ++ map turned_arc (take l.place l.initial.arcs.items)
