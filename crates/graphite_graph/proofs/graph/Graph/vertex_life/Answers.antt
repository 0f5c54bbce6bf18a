use Rattle.std.proofs.Common.{ap, ◌∙◌}
use Rattle.graphite_text.specs.Graph.{vertex_life}
use Rattle.graphite_graph.proofs.LifeLemmas.{lifespan_at-as_span}
use Rattle.graphite_graph.proofs.graph.Graph.vertex_life.Goals as goal

pub returns-clause-lifespans : goal.returns-clause-lifespans
returns-clause-lifespans c = λ t.
    lifespan_at-as_span c.vertex_life.result.now _ t (c.vertex_life.ensures.life ∙ ap (λ graph. vertex_life graph c.args.v) c.self.view_is)
