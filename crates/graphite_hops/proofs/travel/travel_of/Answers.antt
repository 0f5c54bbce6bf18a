use Rattle.graphite_part.specs.Pieces.{AreRuns}
use Rattle.graphite_hops.specs.Arcs.{travel_at}
use Rattle.graphite_hops.specs.Paired.{paired}
use Rattle.graphite_hops.proofs.TravelLemmas.{IfOk-to, travel-paired}
use Rattle.graphite_hops.proofs.travel.travel_of.Goals as goal

pub returns : goal.returns
returns c =
    let life = c.edge_life.result.now in
    let times = c.property_of-times.result.now in
    let costs = c.property_of-costs.result.now in
    IfOk-to (AreRuns (paired life times costs)) (AreRuns (travel_at c.args.graph.now c.args.e)) c.travel_on.result
    (travel-paired c.args.graph.now c.args.e life times costs c.edge_life.ensures.life c.property_of-times.ensures.values c.property_of-costs.ensures.values)
    c.travel_on.ensures
