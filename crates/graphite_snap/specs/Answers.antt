-- What the programs of snapshots give for a graph, and their answers.
use Rattle.std.specs.Prelude.{◌≡◌, ℕ, ◌<◌, true, false, List, [], length, slice_index_or, Option, None, IfSome, IsSomeAnd}
use Rattle.graphite_part.specs.declared.piece.Piece.{Piece}
use Rattle.graphite_part.specs.Pieces.{value_at, AreRuns}
use Rattle.graphite_text.specs.Graph.{PlainGraph, vertex_is_alive}
use Rattle.graphite_snap.specs.declared.query.SnapQuery.{SnapQuery}
use Rattle.graphite_snap.specs.declared.query.SnapQuery.TheVariants.{Degree, Bfs, Components, Max, Distance, Rank}
use Rattle.graphite_snap.specs.Description.{Meaning, meaning}
use Rattle.graphite_snap.specs.Degree.{degree, degree_equation}
use Rattle.graphite_snap.specs.Bfs.{bfs, bfs_equation}
use Rattle.graphite_snap.specs.Components.{components, components_equation}
use Rattle.graphite_snap.specs.Max.{max_of, max_equation}
use Rattle.graphite_snap.specs.Distance.{distance, distance_equation}
use Rattle.graphite_snap.specs.Rank.{rank, rank_equation}

-- the programs, each in a file of its own
abbrev pub meaning_of : SnapQuery → Meaning
meaning_of Degree = degree
meaning_of (Bfs source) = meaning (bfs source)
meaning_of Components = meaning components
meaning_of (Max key) = meaning (max_of key)
meaning_of (Distance source) = meaning (distance source)
meaning_of Rank = meaning rank

-- what a program's printed value is in plain words, without supersteps, where so many of them are allowed
abbrev pub equation_of : SnapQuery → PlainGraph → (steps v t : ℕ) → Option ℕ → Type 0
equation_of Degree = degree_equation
equation_of (Bfs source) = bfs_equation source
equation_of Components = components_equation
equation_of (Max key) = max_equation key
equation_of (Distance source) = distance_equation source
equation_of Rank = rank_equation

-- the vertex that the program starts from, where there is one, is one of the graph
abbrev pub IsAsked : PlainGraph → SnapQuery → Type 0
IsAsked graph query = IfSome (meaning_of query).source (λ source. source < length graph.vertices)

-- the answer of a program: for each vertex the maximal runs of what is printed of it, with nothing at an
-- instant at which it is not alive; the supersteps made; and the calls
pub record IsAnswer (program : Meaning) (graph : PlainGraph) (steps : ℕ) (values : List (List (Piece (Option ℕ)))) (made calls : ℕ) : Type 0 where
  pub values_len : length values ≡ length graph.vertices
  pub values_are : (v : ℕ) → v < length graph.vertices → AreRuns (program.printed_at graph steps v) (slice_index_or values v [])
  pub alive : (v t : ℕ) → v < length graph.vertices → vertex_is_alive graph v t ≡ false → value_at (slice_index_or values v []) t ≡ None
  pub made_is : made ≡ program.made graph steps
  pub calls_are : calls ≡ program.calls graph steps

-- the answer to a query
abbrev pub IsSnapAnswer : PlainGraph → SnapQuery → ℕ → List (List (Piece (Option ℕ))) → ℕ → ℕ → Type 0
IsSnapAnswer graph query steps values made calls = IsAnswer (meaning_of query) graph steps values made calls

-- at each instant of a vertex's life there is a value, and it is the one that the equation says
abbrev pub MeetEquation : PlainGraph → ((v t : ℕ) → Option ℕ → Type 0) → List (List (Piece (Option ℕ))) → Type 0
MeetEquation graph equation values =
    (v t : ℕ) → v < length graph.vertices → vertex_is_alive graph v t ≡ true → IsSomeAnd (value_at (slice_index_or values v []) t) (equation v t)
