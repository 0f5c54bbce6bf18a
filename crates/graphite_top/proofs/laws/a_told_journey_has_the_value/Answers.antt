-- The value of the journey is the best one, and there is one best value.
use Rattle.graphite_text.specs.Graph.{vertex_is_alive}
use Rattle.graphite_api.specs.Journey.{journey_value}
use Rattle.graphite_api.proofs.WrittenLemmas.{best-one}
use Rattle.graphite_hops.specs.Hops.{IsHopOf}
use Rattle.graphite_witness.proofs.StepsLemmas.{steps-best}
use Rattle.graphite_top.proofs.laws.a_told_journey_has_the_value.Goals as goal

pub returns : goal.returns
returns c = λ graph query v t x steps best told.
    let found = steps-best (vertex_is_alive graph) (IsHopOf graph) query v t steps told in
    let is = best-one (vertex_is_alive graph) (IsHopOf graph) query v t (journey_value query.kind found.0 found.1) x found.5 best in
    (found.0, found.1, found.2, found.3, found.4, is, found.6)
