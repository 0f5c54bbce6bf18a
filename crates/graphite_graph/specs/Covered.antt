-- The facts of a vertex, counted from the lifespans of the edges that leave it, and read from the numbers of all
-- vertices alive and from the values of a property.
use Rattle.std.specs.Prelude.{ℕ, if◌then◌else◌, List, Option, Some, None, unwrap_or}
use Rattle.std.specs.Option.{option_and_then}
use Rattle.graphite_time.specs.declared.interval.Interval.{Interval}
use Rattle.graphite_time.specs.Life.{is_held}
use Rattle.graphite_part.specs.declared.piece.Piece.{Piece}
use Rattle.graphite_part.specs.Counts.{covers_at}
use Rattle.graphite_part.specs.Pieces.{value_at}
use Rattle.graphite_text.specs.Graph.{PlainGraph, out_degree, vertex_property_at}
use Rattle.graphite_graph.specs.declared.facts.Ask.{Ask}
use Rattle.graphite_graph.specs.declared.facts.Facts.{Facts}
use Rattle.graphite_graph.specs.Facts.{number_alive}

-- the facts of a vertex with this out-degree, this number of vertices alive and this value of a property
abbrev pub facts_with : ℕ → ℕ → ℕ → Option ℕ → Facts
facts_with v outdegree n prop = record { vertex = v; outdegree = outdegree; n = n; prop = prop }

-- how many edges that are alive at the instant lead out of the vertex, and 0 where that is not asked
abbrev pub asked_degree : PlainGraph → Ask → ℕ → ℕ → ℕ
asked_degree graph ask v t = if ask.outdegree then out_degree graph v t else 0

-- how many vertices are alive at the instant, and 0 where that is not asked
abbrev pub asked_number : PlainGraph → Ask → ℕ → ℕ
asked_number graph ask t = if ask.n then number_alive graph t else 0

-- the value that the vertex has under the asked key at the instant, and nothing where none is asked
abbrev pub asked_property : PlainGraph → Ask → ℕ → ℕ → Option ℕ
asked_property graph ask v t = option_and_then (λ key. vertex_property_at graph v key t) ask.key

-- at each instant of a life how many of the covers hold the instant
abbrev pub counted_on : (life covers : List Interval) → ℕ → Option ℕ
counted_on life covers t = if is_held life t then Some (covers_at covers t) else None

-- at each instant of a life the facts with as many edges as covers that hold the instant, with the number of vertices
-- that stands there, or 0, and with the value of the property, if any
abbrev pub covered_facts : ℕ → (life covers : List Interval) → (numbers property : List (Piece ℕ)) → ℕ → Option Facts
covered_facts v life covers numbers property t =
    if is_held life t then Some (facts_with v (covers_at covers t) (unwrap_or (value_at numbers t) 0) (value_at property t)) else None
