-- Saturating sums.
use Rattle.std.proofs.Common.{◌<◌, ◌^◌, sym, subst, List, All}
use Rattle.graphite_api.specs.declared.arc.Arc.{Arc}
use Rattle.graphite_api.specs.Hop.{Hop}
use Rattle.graphite_api.specs.Table.{vertex_is_alive}
use Rattle.graphite_api.specs.TableHops.{IsHopOn}
use Rattle.graphite_api.proofs.DepartureLemmas.{arc_of_hop, hop_is_along}
use Rattle.graphite_api.proofs.SaturatingLemmas.{exact-lists, exact-within}
use Rattle.graphite_api.proofs.journey_laws.saturating_sums_are_exact.Goals as goal

-- the cost of a hop is that of its arc
costs_of_hops : (arcs : List Arc) → All (λ arc. arc.cost < 2 ^ 32) arcs → (hop : Hop) → IsHopOn arcs hop → hop.cost < 2 ^ 32
costs_of_hops arcs costs hop on = subst (λ n. n < 2 ^ 32) (sym (hop_is_along arcs hop on).cost) (arc_of_hop (λ (arc : Arc). arc.cost < 2 ^ 32) arcs hop on costs)

pub returns-clause-within : goal.returns-clause-within
returns-clause-within c = λ lives arcs start costs free k v t value few best. exact-within (vertex_is_alive lives) (IsHopOn arcs) start (costs_of_hops arcs costs) free k v t value few best

pub returns-clause-over_all : goal.returns-clause-over_all
returns-clause-over_all c = λ lives arcs start costs free k v t value few best all. exact-lists (vertex_is_alive lives) (IsHopOn arcs) start (costs_of_hops arcs costs) free k v t value few best all
