use Rattle.std.proofs.Common.{◌≡◌, ◌++◌, All, map, sym, subst}
use Rattle.graphite_part.specs.Pieces.{AreRuns}
use Rattle.graphite_hops.specs.Arcs.{travel_at, arc_between, IsArcIn}
use Rattle.graphite_hops.proofs.TravelLemmas.{OnOk-to, FitsEnds, edge_fits}
use Rattle.graphite_hops.proofs.arcs.add_edge.Goals as goal

pub returns-clause-fit : goal.returns-clause-fit
returns-clause-fit c =
    let graph = c.args.graph.now in
    let old = c.args.arcs.now.items in
    let new = c.add_pieces.new.arcs.items in
    let pieces = c.pieces.result.now in
    let fits : FitsEnds graph c.args.e c.ends.result = record {
      from = c.ends.ensures.from_in_range;
      to = c.ends.ensures.to_in_range;
      from_alive = c.ends.ensures.from_alive;
      to_alive = c.ends.ensures.to_alive;
      takes_time = c.edge_props-props.ensures.times;
    } in
    let runs : AreRuns (travel_at graph c.args.e) pieces = subst (AreRuns (travel_at graph c.args.e)) (sym c.pieces.ensures.pieces) c.in_ok-travel.ensures in
    OnOk-to (new ≡ old ++ map (arc_between c.args.e c.ends.result) pieces) (All (IsArcIn graph) old → All (IsArcIn graph) new) c.add_pieces.result
    (edge_fits graph c.args.e c.ends.result pieces old new fits runs)
    c.add_pieces.ensures
