use Rattle.graphite_top.proofs.PathLemmas.{journey_answer_is_one}
use Rattle.graphite_top.proofs.laws.an_answer_is_one.Goals as goal

pub returns : goal.returns
returns c = journey_answer_is_one
