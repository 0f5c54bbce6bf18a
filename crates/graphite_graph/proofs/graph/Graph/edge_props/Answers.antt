use Rattle.std.proofs.Common.{◌≡◌, subst}
use Rattle.graphite_text.specs.Canonical.{canonical_text}
use Rattle.graphite_text.specs.Graph.{PlainGraph}
use Rattle.graphite_text.specs.Reading.{Accepted, reading_of}
use Rattle.graphite_graph.proofs.TravelLemmas.{travels}
use Rattle.graphite_graph.proofs.graph.Graph.edge_props.Goals as goal

pub returns-clause-times : goal.returns-clause-times
returns-clause-times c =
    let read : PlainGraph → Type 0 = λ graph. reading_of (canonical_text graph) ≡ Accepted graph in
    travels c.args.self.now (subst read c.self.view_is c.self.invariant)
