use Rattle.graphite_props.proofs.PropertyLemmas.{no_property_read}
use Rattle.graphite_graph.proofs.property.property_of.Goals as goal

pub returns-in-None-clause-values : goal.returns-in-None-clause-values
returns-in-None-clause-values c =
    no_property_read c.vertex_props.result.now c.args.graph.now.vertex_properties c.args.v c.args.key.now c.vertex_props.ensures.properties c.in-None.ensures.known
