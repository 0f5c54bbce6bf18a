-- Answers that a function determines are its runs.
use Rattle.graphite_part.proofs.MapLemmas.{AreRuns-from_answers}
use Rattle.graphite_part.proofs.laws.answers_are_runs.Goals as goal

pub returns : goal.returns
returns g c = λ h old new only answers. AreRuns-from_answers _ h old new only answers
