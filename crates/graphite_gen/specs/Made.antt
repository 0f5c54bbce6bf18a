-- The graph that is made from a number: a seed gives words, and the words give lives, edges and properties.
use Rattle.std.specs.Prelude.{◌≡◌, ◌≤◌, ℕ, ◌+◌, ◌-◌, ◌*◌, ◌/◌, ◌%◌, zero, suc, List, [], ◌∷◌, ◌++◌, map, flat_map, codes, decimal, max, min}
use Rattle.std.specs.List.{range_with_len}
use Rattle.rand_xoshiro.specs.SplitMix64.{mix_u64}
use Rattle.graphite_time.specs.declared.TheConstants.{LAST}
use Rattle.graphite_base.specs.declared.reading.TheConstants.{MADE_LIMIT}
use Rattle.graphite_text.specs.declared.span.Span.{Span}
use Rattle.graphite_text.specs.Graph.{PlainVertex, PlainEdge, PlainProperty, PlainGraph}

-- the state of the generator SplitMix64 after so many words, and the word that is drawn next: its 64-bit words from a seed,
-- counted from 0
abbrev pub state_after : (seed : ℕ) → ℕ → ℕ
state_after seed zero = seed
state_after seed (suc k) = (mix_u64 (state_after seed k)).1

abbrev pub word_at : (seed : ℕ) → ℕ → ℕ
word_at seed k = (mix_u64 (state_after seed k)).0

-- The numbers that a graph is made from: a seed, how many vertices and edges it has, and its horizon.
pub record Recipe : Type 0 where
  pub seed : ℕ
  pub vertices : ℕ
  pub edges : ℕ
  pub horizon : ℕ

-- a letter and a number
abbrev pub numbered : (letter : List ℕ) → ℕ → List ℕ
numbered letter i = letter ++ decimal i

-- half of the horizon, rounded up: each vertex is alive at the instant before
abbrev pub middle : Recipe → ℕ
middle recipe = (recipe.horizon + 1) / 2

-- ---- a vertex, from three words

-- the number of the first word of a vertex
abbrev pub vertex_words : (i : ℕ) → ℕ
vertex_words i = 3 * i

abbrev pub vertex_span : Recipe → (i : ℕ) → Span
vertex_span recipe i = record {
  a = word_at recipe.seed (vertex_words i) % middle recipe;
  b = middle recipe + word_at recipe.seed (vertex_words i + 1) % (recipe.horizon - middle recipe + 1);
}

abbrev pub vertex_size : Recipe → (i : ℕ) → ℕ
vertex_size recipe i = 100 + word_at recipe.seed (vertex_words i + 2) % 900

abbrev pub made_vertex : Recipe → (i : ℕ) → PlainVertex
made_vertex recipe i = record { name = numbered (codes "v") i; life = vertex_span recipe i ∷ [] }

abbrev pub size_property : Recipe → (i : ℕ) → PlainProperty
size_property recipe i = record { owner = i; key = codes "size"; over = vertex_span recipe i; value = vertex_size recipe i }

-- ---- an edge, from six words behind those of all vertices

abbrev pub edge_words : Recipe → (j : ℕ) → ℕ
edge_words recipe j = 3 * recipe.vertices + 6 * j

abbrev pub edge_from : Recipe → (j : ℕ) → ℕ
edge_from recipe j = word_at recipe.seed (edge_words recipe j) % recipe.vertices

abbrev pub edge_to : Recipe → (j : ℕ) → ℕ
edge_to recipe j = word_at recipe.seed (edge_words recipe j + 1) % recipe.vertices

-- the instants of both spans
abbrev pub meet : Span → Span → Span
meet one other = record { a = max one.a other.a; b = min one.b other.b }

-- the instants at which both ends are alive
abbrev pub ends_span : Recipe → (j : ℕ) → Span
ends_span recipe j = meet (vertex_span recipe (edge_from recipe j)) (vertex_span recipe (edge_to recipe j))

-- the span that two words choose within one: where it begins, and how long it lasts
abbrev pub start_within : Span → (word : ℕ) → ℕ
start_within both word = both.a + word % (both.b - both.a)

abbrev pub span_from : Span → (a word : ℕ) → Span
span_from both a word = record { a = a; b = a + 1 + word % (both.b - a) }

abbrev pub span_within : Span → (start length : ℕ) → Span
span_within both start length = span_from both (start_within both start) length

abbrev pub edge_span : Recipe → (j : ℕ) → Span
edge_span recipe j =
    span_within (ends_span recipe j) (word_at recipe.seed (edge_words recipe j + 2)) (word_at recipe.seed (edge_words recipe j + 3))

abbrev pub edge_time : Recipe → (j : ℕ) → ℕ
edge_time recipe j = 1 + word_at recipe.seed (edge_words recipe j + 4) % 4

abbrev pub edge_cost : Recipe → (j : ℕ) → ℕ
edge_cost recipe j = word_at recipe.seed (edge_words recipe j + 5) % 10

abbrev pub made_edge : Recipe → (j : ℕ) → PlainEdge
made_edge recipe j = record {
  name = numbered (codes "e") j;
  from = edge_from recipe j;
  to = edge_to recipe j;
  life = edge_span recipe j ∷ [];
}

abbrev pub edge_property : Recipe → (j : ℕ) → (key : List ℕ) → (value : ℕ) → PlainProperty
edge_property recipe j key value = record { owner = j; key = key; over = edge_span recipe j; value = value }

abbrev pub travel_properties : Recipe → (j : ℕ) → List PlainProperty
travel_properties recipe j =
    edge_property recipe j (codes "time") (edge_time recipe j) ∷ edge_property recipe j (codes "cost") (edge_cost recipe j) ∷ []

-- ---- the graph

-- The graph over the instants below the horizon, with so many vertices and edges.
abbrev pub made_graph : Recipe → PlainGraph
made_graph recipe = record {
  horizon = recipe.horizon;
  vertices = map (made_vertex recipe) (range_with_len 0 recipe.vertices);
  edges = map (made_edge recipe) (range_with_len 0 recipe.edges);
  vertex_properties = map (size_property recipe) (range_with_len 0 recipe.vertices);
  edge_properties = flat_map (travel_properties recipe) (range_with_len 0 recipe.edges);
}

-- the numbers are within the limits, and there is a vertex wherever there is an edge
pub record IsRecipe (recipe : Recipe) : Type 0 where
  pub vertices : recipe.vertices ≤ MADE_LIMIT
  pub edges : recipe.edges ≤ MADE_LIMIT
  pub some : 1 ≤ recipe.horizon
  pub last : recipe.horizon ≤ LAST
  pub has_ends : recipe.vertices ≡ 0 → recipe.edges ≡ 0
