-- One alone.
use Rattle.std.proofs.Common.{IsTrue}
use Rattle.graphite_api.specs.Table.{vertex_is_alive}
use Rattle.graphite_api.specs.TableHops.{IsHopOn}
use Rattle.graphite_witness.proofs.StepsLemmas.{steps-one}
use Rattle.graphite_witness.proofs.laws.a_written_journey_is_one.Goals as goal

pub returns-clause-table : goal.returns-clause-table
returns-clause-table c = λ lives arcs query v t steps others once written again. steps-one (vertex_is_alive lives) (IsHopOn arcs) query v t steps others once written again

pub returns-clause-tests : goal.returns-clause-tests
returns-clause-tests c = λ alive is_hop query v t steps others once written again. steps-one alive (λ hop. IsTrue (is_hop hop)) query v t steps others once written again
