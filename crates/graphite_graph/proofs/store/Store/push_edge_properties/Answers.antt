use Rattle.graphite_graph.proofs.ShowLemmas.{owner_among}
use Rattle.graphite_graph.proofs.store.Store.push_edge_properties.Goals as goal

pub push_edge_property-requires-clause-owner : goal.push_edge_property-requires-clause-owner
push_edge_property-requires-clause-owner c =
    owner_among _ _ _ c.rows-rows.result.now c.loop-row.row-index c.row-item.result c.edge_props.ensures.owners c.rows-rows.ensures.rows c.loop-row-test.true c.row-item.is
