-- A superstep in which no vertex sends is the last that changes anything.
use Rattle.graphite_api.proofs.SuperstepLemmas.{silent_for_good}
use Rattle.graphite_api.proofs.laws.silence_lasts.Goals as goal

pub returns : goal.returns
returns g c = λ plan snapshot k j always first silent le v. silent_for_good plan snapshot k j always first silent le v
