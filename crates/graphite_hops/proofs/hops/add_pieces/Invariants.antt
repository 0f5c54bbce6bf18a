use Rattle.std.proofs.Common.{◌≡◌, ◌++◌, map, take}
use Rattle.std.specs.List.{flat_map}
use Rattle.graphite_hops.specs.Departures.{parts_of}
use Rattle.graphite_hops.specs.Hops.{hop_arc_between}
use Rattle.graphite_hops.proofs.hops.add_pieces.Given as goal

abbrev pub invariant-loop-piece : goal.invariant-loop-piece
invariant-loop-piece l =
    l.arcs.items ≡ l.initial.arcs.items ++ map (hop_arc_between l.e l.ends) (flat_map (parts_of l.horizon l.stays) (take l.piece-index l.pieces))
