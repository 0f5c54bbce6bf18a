use Rattle.std.proofs.Common.{◌≡◌, Some, subst}
use Rattle.graphite_text.specs.Canonical.{canonical_text}
use Rattle.graphite_text.specs.Graph.{PlainGraph}
use Rattle.graphite_text.specs.Reading.{Accepted, reading_of}
use Rattle.graphite_graph.specs.Ends.{edge_ends}
use Rattle.graphite_graph.proofs.TravelLemmas.{ends_are_alive}
use Rattle.graphite_graph.proofs.graph.Graph.ends.Goals as goal

pub returns-clause-from_alive : goal.returns-clause-from_alive
returns-clause-from_alive c =
    let read : PlainGraph → Type 0 = λ graph. reading_of (canonical_text graph) ≡ Accepted graph in
    let leads : PlainGraph → Type 0 = λ graph. edge_ends graph c.args.e ≡ Some c.ends.result in
    λ t alive. (ends_are_alive c.args.self.now (subst read c.self.view_is c.self.invariant) c.args.e c.ends.result (subst leads c.self.view_is c.ends.ensures.ends) t alive).0

pub returns-clause-to_alive : goal.returns-clause-to_alive
returns-clause-to_alive c =
    let read : PlainGraph → Type 0 = λ graph. reading_of (canonical_text graph) ≡ Accepted graph in
    let leads : PlainGraph → Type 0 = λ graph. edge_ends graph c.args.e ≡ Some c.ends.result in
    λ t alive. (ends_are_alive c.args.self.now (subst read c.self.view_is c.self.invariant) c.args.e c.ends.result (subst leads c.self.view_is c.ends.ensures.ends) t alive).1
