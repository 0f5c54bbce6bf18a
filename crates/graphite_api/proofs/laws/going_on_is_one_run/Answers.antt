-- Supersteps that go on are numbered on.
use Rattle.graphite_api.proofs.SuperstepLemmas.{later_is}
use Rattle.graphite_api.proofs.laws.going_on_is_one_run.Goals as goal

pub returns : goal.returns
returns g c = λ plan links k states groups n m v. later_is plan links k states groups n m v
