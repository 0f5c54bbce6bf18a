-- Enough.
use Rattle.graphite_api.specs.TableHops.{IsHopOn}
use Rattle.graphite_api.proofs.EnoughLemmas.{best_of_lists}
use Rattle.graphite_api.proofs.journey_laws.fewer_hops_than_lifespans_are_enough.Goals as goal

pub returns : goal.returns
returns c = λ values lives arcs start search v t value h. best_of_lists values lives (IsHopOn arcs) start search v t value h
