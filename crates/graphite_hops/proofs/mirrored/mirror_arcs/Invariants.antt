-- The arcs so far were mirrored.
use Rattle.std.proofs.Common.{◌≡◌, map, take}
use Rattle.graphite_hops.specs.Mirror.{mirrored_arc}
use Rattle.graphite_hops.proofs.mirrored.mirror_arcs.Given as goal

abbrev pub invariant-loop-arc : goal.invariant-loop-arc
invariant-loop-arc l = l.mirrored.items ≡ map (mirrored_arc l.h l.table.lives) (take l.arc-index l.arcs)
