-- Crossing.
use Rattle.graphite_api.specs.Table.{vertex_is_alive}
use Rattle.graphite_api.specs.TableHops.{IsHopOn}
use Rattle.graphite_api.proofs.CrossingLemmas.{attained-within, lists-over_all}
use Rattle.graphite_api.proofs.journey_laws.best_of_lists_is_best_of_journeys.Goals as goal

pub returns-clause-within : goal.returns-clause-within
returns-clause-within c = λ lives arcs query start other starts k v t value h. attained-within (vertex_is_alive lives) (IsHopOn arcs) query other start starts k v t value h

pub returns-clause-over_all : goal.returns-clause-over_all
returns-clause-over_all c = λ lives arcs query start other starts v t value h. lists-over_all (vertex_is_alive lives) (IsHopOn arcs) query other start starts v t value h
