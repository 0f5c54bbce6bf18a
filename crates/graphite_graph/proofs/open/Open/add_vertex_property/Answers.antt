use Rattle.std.proofs.Common.{◌<◌, sym, ap, subst, length}
use Rattle.graphite_props.specs.Properties.{property}
use Rattle.graphite_graph.proofs.StoreLemmas.{AreOwned-added}
use Rattle.graphite_graph.proofs.open.Open.add_vertex_property.Goals as goal

pub invariant_of-self : goal.invariant_of-self
invariant_of-self c = (
  AreOwned-added c.add.result _ _ _ (property c.args.v c.args.key.now c.args.over c.args.value) c.self.invariant.0
      (subst (λ n. c.args.v < n) (sym (ap (λ graph. length graph.vertices) c.self.view_is)) c.requires.among) c.add.ensures.ok c.add.ensures.err,
  c.self.invariant.1,
)
