use Rattle.std.proofs.Common.{ap, ◌∙◌}
use Rattle.graphite_text.specs.Graph.{edge_life}
use Rattle.graphite_graph.proofs.LifeLemmas.{lifespan_at-as_span}
use Rattle.graphite_graph.proofs.graph.Graph.edge_life.Goals as goal

pub returns-clause-lifespans : goal.returns-clause-lifespans
returns-clause-lifespans c = λ t.
    lifespan_at-as_span c.edge_life.result.now _ t (c.edge_life.ensures.life ∙ ap (λ graph. edge_life graph c.args.e) c.self.view_is)
