use Rattle.std.proofs.Common.{◌<◌, sym, ap, subst, length}
use Rattle.graphite_props.specs.Properties.{property}
use Rattle.graphite_graph.proofs.StoreLemmas.{AreOwned-added}
use Rattle.graphite_graph.proofs.open.Open.add_edge_property.Goals as goal

pub invariant_of-self : goal.invariant_of-self
invariant_of-self c = (
  c.self.invariant.0,
  AreOwned-added c.add.result _ _ _ (property c.args.e c.args.key.now c.args.over c.args.value) c.self.invariant.1
      (subst (λ n. c.args.e < n) (sym (ap (λ graph. length graph.edges) c.self.view_is)) c.requires.among) c.add.ensures.ok c.add.ensures.err,
)
