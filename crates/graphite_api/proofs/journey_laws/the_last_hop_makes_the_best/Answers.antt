-- One hop more.
use Rattle.graphite_api.specs.Table.{vertex_is_alive}
use Rattle.graphite_api.specs.TableHops.{IsHopOn}
use Rattle.graphite_api.proofs.ListLemmas.{last_hop}
use Rattle.graphite_api.proofs.journey_laws.the_last_hop_makes_the_best.Goals as goal

pub returns : goal.returns
returns c = λ values lives arcs start best k lawful some are v t value h. last_hop values lawful (vertex_is_alive lives) (IsHopOn arcs) start best k some are v t value h
