-- Settled.
use Rattle.graphite_api.specs.Table.{vertex_is_alive}
use Rattle.graphite_api.specs.TableHops.{IsHopOn}
use Rattle.graphite_api.proofs.ListLemmas.{settled}
use Rattle.graphite_api.proofs.journey_laws.settled_values_are_best.Goals as goal

pub returns : goal.returns
returns c = λ values lives arcs start best k lawful are stay v t. settled values lawful (vertex_is_alive lives) (IsHopOn arcs) start best k are stay v t
