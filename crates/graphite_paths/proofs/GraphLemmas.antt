-- The answer for the table of a graph is the answer for the graph.
use Rattle.std.proofs.Common.{◌≡◌, ◌↔◌, sym, ap, ◌∙◌, ℕ, List, length, map, Option}
use Rattle.std.proofs.lemmas.List.{length-map}
use Rattle.graphite_time.specs.declared.interval.Interval.{Interval}
use Rattle.graphite_text.specs.Graph.{PlainGraph, vertex_is_alive}
use Rattle.graphite_text.specs.Spans.{as_span}
use Rattle.graphite_part.specs.declared.piece.Piece.{Piece}
use Rattle.graphite_api.specs.declared.arc.Arc.{Arc}
use Rattle.graphite_api.specs.declared.path_query.PathQuery.{PathQuery}
use Rattle.graphite_api.specs.Hop.{Hop}
use Rattle.graphite_api.specs.Table.{vertex_is_alive as is_alive_in}
use Rattle.graphite_api.specs.TableHops.{IsHopOn}
use Rattle.graphite_hops.specs.Hops.{IsHopOf}
use Rattle.graphite_paths.specs.Answer.{IsSettledWithin, IsPathAnswer}
use Rattle.graphite_paths.proofs.SameJourneys.{answer-same, settled-same}

-- the lives and the hops of the table are those of the graph
module _ (graph : PlainGraph) (lives : List (List Interval)) (arcs : List Arc) (are : map (map as_span) lives ≡ map (λ vertex. vertex.life) graph.vertices) (alive : (v t : ℕ) → is_alive_in lives v t ≡ vertex_is_alive graph v t) (hops : (hop : Hop) → IsHopOn arcs hop ↔ IsHopOf graph hop) (query : PathQuery) (steps : ℕ) where
  as_many : length lives ≡ length graph.vertices
  as_many = sym (length-map lives (map as_span)) ∙ ap length are ∙ length-map graph.vertices (λ vertex. vertex.life)

  pub answer_of_graph : (values : List (List (Piece (Option ℕ)))) (made : ℕ) → IsPathAnswer (is_alive_in lives) (IsHopOn arcs) query (length lives) steps values made → IsPathAnswer (vertex_is_alive graph) (IsHopOf graph) query (length graph.vertices) steps values made
  answer_of_graph values made answer =
      answer-same (is_alive_in lives) (vertex_is_alive graph) (IsHopOn arcs) (IsHopOf graph) alive hops query (length lives) (length graph.vertices) as_many steps values made answer

  pub settled_on_table : IsSettledWithin (vertex_is_alive graph) (IsHopOf graph) query steps → IsSettledWithin (is_alive_in lives) (IsHopOn arcs) query steps
  settled_on_table settled =
      (settled-same (is_alive_in lives) (vertex_is_alive graph) (IsHopOn arcs) (IsHopOf graph) alive hops query steps).1 settled
