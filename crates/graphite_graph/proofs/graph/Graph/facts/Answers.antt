use Rattle.std.proofs.Common.{rules}
use Rattle.std.proofs.lemmas.Result.{IfOk-weaker}
use Rattle.graphite_graph.specs.Facts.{facts_at}
use Rattle.graphite_graph.proofs.FactsLemmas.{AreRuns-same}
use Rattle.graphite_graph.proofs.graph.Graph.facts.Goals as goal

pub returns-clause-facts : goal.returns-clause-facts
returns-clause-facts c =
    IfOk-weaker c.map_facts.result _ _
    (λ facts made v within. AreRuns-same _ (facts_at c.args.self.now c.args.ask.now v) _ (λ x y met. search rules) (made v within))
    c.map_facts.ensures.made
