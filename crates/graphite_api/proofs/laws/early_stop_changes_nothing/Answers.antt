-- Where no vertex sends, every later superstep changes nothing.
use Rattle.graphite_api.proofs.MadeLemmas.{stop_changes_nothing}
use Rattle.graphite_api.proofs.laws.early_stop_changes_nothing.Goals as goal

pub returns : goal.returns
returns g c = λ plan snapshots vertices horizon steps t within others v. stop_changes_nothing plan snapshots vertices horizon steps t v within others
