-- The out-degree of each vertex, which makes no superstep.
use Rattle.std.specs.Prelude.{◌≡◌, ℕ, true, false, Option, None, Some}
use Rattle.graphite_text.specs.Graph.{PlainGraph, out_degree}
use Rattle.graphite_graph.specs.declared.facts.Ask.{Ask}
use Rattle.graphite_snap.specs.Description.{Meaning, meaning_at_once}

abbrev pub outdegree_alone : Ask
outdegree_alone = record { outdegree = true; n = false; key = None }

abbrev pub degree : Meaning
degree = meaning_at_once outdegree_alone (λ facts. Some facts.outdegree)

-- in plain words: the number of edges that are alive at the instant and lead out of the vertex
abbrev pub degree_equation : PlainGraph → (steps v t : ℕ) → Option ℕ → Type 0
degree_equation graph steps v t value = value ≡ Some (out_degree graph v t)
