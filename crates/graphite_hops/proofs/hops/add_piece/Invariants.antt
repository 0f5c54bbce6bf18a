use Rattle.std.proofs.Common.{◌≡◌, ◌++◌, map, take}
use Rattle.graphite_hops.specs.Departures.{parts_of}
use Rattle.graphite_hops.specs.Hops.{hop_arc_between}
use Rattle.graphite_hops.proofs.hops.add_piece.Given as goal

-- the arcs into the lifespans so far
abbrev pub invariant-loop-stay : goal.invariant-loop-stay
invariant-loop-stay l =
    l.arcs.items ≡ l.initial.arcs.items ++ map (hop_arc_between l.e l.ends) (parts_of l.horizon (take l.stay-index l.met) l.fn.piece)
