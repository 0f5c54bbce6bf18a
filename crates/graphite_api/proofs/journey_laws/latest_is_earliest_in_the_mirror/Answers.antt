-- The mirror.
use Rattle.graphite_api.specs.Table.{vertex_is_alive}
use Rattle.graphite_api.specs.TableHops.{IsHopOn}
use Rattle.graphite_api.proofs.MirrorLemmas.{latest-within, latest-over_all}
use Rattle.graphite_api.proofs.journey_laws.latest_is_earliest_in_the_mirror.Goals as goal

pub returns-clause-within : goal.returns-clause-within
returns-clause-within c = λ h lives lives' arcs arcs' query are latest k v t value below best. latest-within h (vertex_is_alive lives) (vertex_is_alive lives') (IsHopOn arcs) (IsHopOn arcs') are query latest k v t value below best

pub returns-clause-over_all : goal.returns-clause-over_all
returns-clause-over_all c = λ h lives lives' arcs arcs' query are latest v t value below best. latest-over_all h (vertex_is_alive lives) (vertex_is_alive lives') (IsHopOn arcs) (IsHopOn arcs') are query latest v t value below best
