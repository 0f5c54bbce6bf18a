-- Nowhere missing.
use Rattle.graphite_witness.proofs.StepsLemmas.{steps-exist}
use Rattle.graphite_witness.proofs.laws.every_best_value_has_a_written_journey.Goals as goal

pub returns : goal.returns
returns c = λ lives arcs query values table answered. steps-exist lives arcs query values table answered
