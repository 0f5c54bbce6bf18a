use Rattle.std.proofs.Common.{◌≡◌, ◌++◌, All, map, sym, subst}
use Rattle.std.specs.List.{flat_map}
use Rattle.graphite_time.specs.Life.{IsLife}
use Rattle.graphite_part.specs.Pieces.{AreRuns}
use Rattle.graphite_api.specs.Table.{IsArcOn}
use Rattle.graphite_hops.specs.Arcs.{travel_at, RunsAdded}
use Rattle.graphite_hops.specs.Departures.{parts_of}
use Rattle.graphite_hops.specs.Hops.{hop_values, hop_arc_between, hop_arc_on}
use Rattle.graphite_hops.proofs.HopLemmas.{hop_runs, hops_added, hops_fit, stays_read}
use Rattle.graphite_hops.proofs.TravelLemmas.{OnOk-to, FitsEnds}
use Rattle.graphite_hops.proofs.hops.add_edge.Goals as goal

runs : (c : goal.Joined-travel) → AreRuns (hop_values c.args.graph.now c.args.lives.now c.args.e) (flat_map (parts_of c.horizon.result c.spans-stays.result.now) c.pieces.result.now)
runs c =
    let graph = c.args.graph.now in
    let lives = c.args.lives.now in
    let life = c.index-lives-ends.result in
    let stays = c.spans-stays.result.now in
    let own = stays_read graph lives c.args.e c.ends-ends.result life stays c.requires.lives c.ends-ends.ensures.ends c.ends-ends.ensures.to_in_range c.index-lives-ends.is c.spans-stays.ensures.spans in
    hop_runs graph lives c.args.e c.horizon.result stays c.pieces.result.now c.requires.lives c.horizon.ensures.horizon own (subst IsLife (sym c.spans-stays.ensures.spans) c.spans-stays.ensures.life)
    (subst (AreRuns (travel_at graph c.args.e)) (sym c.pieces.ensures.pieces) c.in_ok-travel.ensures)

pub returns-clause-arcs : goal.returns-clause-arcs
returns-clause-arcs c =
    let graph = c.args.graph.now in
    let lives = c.args.lives.now in
    let old = c.args.arcs.now.items in
    let new = c.add_pieces.new.arcs.items in
    let pieces = flat_map (parts_of c.horizon.result c.spans-stays.result.now) c.pieces.result.now in
    OnOk-to (new ≡ old ++ map (hop_arc_between c.args.e c.ends-ends.result) pieces) (RunsAdded (hop_values graph lives c.args.e) (hop_arc_on graph c.args.e) old new) c.add_pieces.result
    (hops_added graph lives c.args.e c.ends-ends.result pieces old new c.ends-ends.ensures.ends (runs c))
    c.add_pieces.ensures

pub returns-clause-fit : goal.returns-clause-fit
returns-clause-fit c =
    let graph = c.args.graph.now in
    let lives = c.args.lives.now in
    let old = c.args.arcs.now.items in
    let new = c.add_pieces.new.arcs.items in
    let pieces = flat_map (parts_of c.horizon.result c.spans-stays.result.now) c.pieces.result.now in
    let fits : FitsEnds graph c.args.e c.ends-ends.result = record {
      from = c.ends-ends.ensures.from_in_range;
      to = c.ends-ends.ensures.to_in_range;
      from_alive = c.ends-ends.ensures.from_alive;
      to_alive = c.ends-ends.ensures.to_alive;
      takes_time = c.edge_props-props.ensures.times;
    } in
    OnOk-to (new ≡ old ++ map (hop_arc_between c.args.e c.ends-ends.result) pieces) (All (IsArcOn lives) old → All (IsArcOn lives) new) c.add_pieces.result
    (hops_fit graph lives c.args.e c.ends-ends.result pieces old new c.requires.lives fits (runs c))
    c.add_pieces.ensures
