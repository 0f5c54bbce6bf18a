-- Links the other way round bring the notes of their targets.
use Rattle.graphite_api.proofs.SuperstepLemmas.{group_of-both_ways}
use Rattle.graphite_api.proofs.laws.both_ends_tell.Goals as goal

pub returns : goal.returns
returns g c = λ plan links outcomes v. group_of-both_ways plan links outcomes v
