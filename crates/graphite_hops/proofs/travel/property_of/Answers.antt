use Rattle.graphite_props.proofs.PropertyLemmas.{no_property_read}
use Rattle.graphite_hops.proofs.travel.property_of.Goals as goal

pub returns-in-None-clause-values : goal.returns-in-None-clause-values
returns-in-None-clause-values c =
    no_property_read c.edge_props.result.now c.args.graph.now.edge_properties c.args.e c.args.key.now c.edge_props.ensures.properties c.in-None.ensures.known
