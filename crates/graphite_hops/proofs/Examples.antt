-- Links and hops of small graphs at an instant, by computing.
use Rattle.std.proofs.Common.{◌≡◌, ℕ, true, false, List, [], ◌∷◌, Some, None, refl}
use Rattle.std.specs.Prelude.{codes}
use Rattle.graphite_text.specs.declared.span.Span.{Span}
use Rattle.graphite_text.specs.Graph.{PlainGraph, PlainVertex, PlainEdge}
use Rattle.graphite_api.specs.Snapshot.{Link}
use Rattle.graphite_hops.specs.declared.direction.Direction.TheVariants.{Out, Both}
use Rattle.graphite_hops.specs.Links.{links_at, links_in}
use Rattle.graphite_hops.specs.Arcs.{travel_at}
use Rattle.graphite_hops.specs.Hops.{is_hop, hop_at}

abbrev span : ℕ → ℕ → Span
span a b = record { a = a; b = b }

abbrev vertex : List ℕ → ℕ → ℕ → PlainVertex
vertex name a b = record { name = name; life = span a b ∷ [] }

abbrev edge : List ℕ → ℕ → ℕ → ℕ → ℕ → PlainEdge
edge name from to a b = record { name = name; from = from; to = to; life = span a b ∷ [] }

abbrev link : ℕ → ℕ → ℕ → ℕ → Link
link from to time cost = record { from = from; to = to; time = time; cost = cost }

-- an edge from a to b, which costs 5 at the instants 2 to 5 and takes 3 at the instants 4 to 9; one from b to itself at 1 and 2
abbrev graph : PlainGraph
graph = record {
  horizon = 20;
  vertices = vertex (codes "a") 0 20 ∷ vertex (codes "b") 0 20 ∷ [];
  edges = edge (codes "x") 0 1 0 10 ∷ edge (codes "y") 1 1 1 3 ∷ [];
  vertex_properties = record { owner = 0; key = codes "cost"; over = span 0 20; value = 9 } ∷ [];
  edge_properties = record { owner = 0; key = codes "cost"; over = span 2 6; value = 5 } ∷ record { owner = 0; key = codes "time"; over = span 4 10; value = 3 } ∷ [];
}

links_at_0 : links_at graph 0 ≡ link 0 1 1 1 ∷ []
links_at_0 = refl

links_at_2 : links_at graph 2 ≡ link 0 1 1 5 ∷ link 1 1 1 1 ∷ []
links_at_2 = refl

links_at_5 : links_at graph 5 ≡ link 0 1 3 5 ∷ []
links_at_5 = refl

links_at_9 : links_at graph 9 ≡ link 0 1 3 1 ∷ []
links_at_9 = refl

links_at_10 : links_at graph 10 ≡ []
links_at_10 = refl

out_at_2 : links_in Out (links_at graph 2) ≡ link 0 1 1 5 ∷ link 1 1 1 1 ∷ []
out_at_2 = refl

both_at_2 : links_in Both (links_at graph 2) ≡ link 0 1 1 5 ∷ link 1 1 1 1 ∷ link 1 0 1 5 ∷ link 1 1 1 1 ∷ []
both_at_2 = refl

travel_at_3 : travel_at graph 0 3 ≡ Some (1, 5)
travel_at_3 = refl

travel_at_10 : travel_at graph 0 10 ≡ None
travel_at_10 = refl

-- the edge x to b, with the times above: it is entered at 9 and arrives at 10, when it is no more
is_hop_9 : is_hop graph 0 9 ≡ true
is_hop_9 = refl

is_hop_10 : is_hop graph 0 10 ≡ false
is_hop_10 = refl

hop_at_5 : hop_at graph 0 5 ≡ record { edge = 0; from = 0; to = 1; depart = 5; time = 3; cost = 5 }
hop_at_5 = refl

-- an edge to a vertex that dies at 8, at a horizon of 10, and one to a vertex that lives until then
abbrev ends : PlainGraph
ends = record {
  horizon = 10;
  vertices = vertex (codes "a") 0 10 ∷ vertex (codes "b") 0 8 ∷ vertex (codes "c") 0 10 ∷ [];
  edges = edge (codes "x") 0 1 0 8 ∷ edge (codes "y") 0 2 0 10 ∷ [];
  vertex_properties = [];
  edge_properties = [];
}

arrives_alive : is_hop ends 0 6 ≡ true
arrives_alive = refl

arrives_dead : is_hop ends 0 7 ≡ false
arrives_dead = refl

arrives_last : is_hop ends 1 8 ≡ true
arrives_last = refl

arrives_at_horizon : is_hop ends 1 9 ≡ false
arrives_at_horizon = refl
