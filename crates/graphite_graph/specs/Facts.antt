-- What holds of a vertex at one instant, and what is made of that.
use Rattle.std.specs.Prelude.{ℕ, if◌then◌else◌, List, Option, Some, None, count_by}
use Rattle.std.specs.Option.{option_and_then}
use Rattle.graphite_part.specs.declared.piece.Piece.{Piece}
use Rattle.graphite_part.specs.Pieces.{value_at, IsChain}
use Rattle.graphite_part.specs.Calls.{IsAnswer}
use Rattle.graphite_text.specs.Graph.{PlainGraph, is_alive, vertex_is_alive, out_degree, vertex_property_at}
use Rattle.graphite_graph.specs.declared.facts.Ask.{Ask}
use Rattle.graphite_graph.specs.declared.facts.Facts.{Facts}

-- how many vertices are alive at the instant
abbrev pub number_alive : PlainGraph → ℕ → ℕ
number_alive graph t = count_by (λ vertex. is_alive vertex.life t) graph.vertices

-- the vertex's number, how many edges that are alive at the instant lead out of it, how many vertices are alive
-- then, and the value that it has then under the key, each where it is asked
abbrev pub facts_of : PlainGraph → Ask → ℕ → ℕ → Facts
facts_of graph ask v t = record {
  vertex = v;
  outdegree = if ask.outdegree then out_degree graph v t else 0;
  n = if ask.n then number_alive graph t else 0;
  prop = option_and_then (λ key. vertex_property_at graph v key t) ask.key;
}

-- the same at each instant at which the vertex is alive, and nothing at all others
abbrev pub facts_at : PlainGraph → Ask → ℕ → ℕ → Option Facts
facts_at graph ask v t = if vertex_is_alive graph v t then Some (facts_of graph ask v t) else None

-- a chain that has at each instant an answer of R to what f has then, and nothing where f has nothing
pub record AreMadeOf {X Y : Type 0} (R : X → Y → Type 0) (f : ℕ → Option X) (pieces : List (Piece Y)) : Type 0 where
  pub in_order : IsChain pieces
  pub values : (t : ℕ) → IsAnswer R (f t) (value_at pieces t)
