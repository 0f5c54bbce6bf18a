-- A program of snapshots by what makes it, and what a program gives for a graph.
use Rattle.std.specs.Prelude.{ℕ, ◌==◌, false, if◌then◌else◌, length, Option, None, Some, option_map}
use Rattle.std.specs.declared.cmp.Ordering.{Ordering}
use Rattle.graphite_text.specs.Graph.{PlainGraph}
use Rattle.graphite_graph.specs.declared.facts.Ask.{Ask}
use Rattle.graphite_graph.specs.declared.facts.Facts.{Facts}
use Rattle.graphite_graph.specs.Facts.{facts_at}
use Rattle.graphite_api.specs.Plan.{Plan}
use Rattle.graphite_api.specs.Snapshot.{Snapshot}
use Rattle.graphite_api.specs.Supersteps.{state_after}
use Rattle.graphite_api.specs.Calls.{supersteps_made, calls_made}
use Rattle.graphite_hops.specs.declared.direction.Direction.{Direction}
use Rattle.graphite_hops.specs.Links.{links_at, links_in}

-- What makes a program of snapshots: the vertex that it starts from, where there is one; the facts that
-- it asks for; which way it goes along the edges; the state that a vertex with these facts starts with;
-- what is done in a superstep; the order of states; and what is printed of a state.
pub record Description (S M : Type 0) : Type 0 where
  pub source : Option ℕ
  pub ask : Ask
  pub direction : Direction
  pub start : Facts → S
  pub plan : Plan S M
  pub order : S → S → Ordering
  pub printed : S → Option ℕ

-- no more is asked for than the number of a vertex
abbrev pub number_alone : Ask
number_alone = record { outdegree = false; n = false; key = None }

-- a program that starts from a vertex: 0 there, and nothing at every other vertex
abbrev pub zero_at : ℕ → Facts → Option ℕ
zero_at source facts = if facts.vertex == source then Some 0 else None

-- The graph at one instant, for a program that goes this way along the edges: each vertex that is alive
-- starts with what `init` makes of its facts.
abbrev pub graph_at : {S : Type 0} → PlainGraph → Ask → Direction → (Facts → S) → ℕ → Snapshot S
graph_at graph ask direction init t = record {
  start = λ v. option_map init (facts_at graph ask v t);
  links = links_in direction (links_at graph t);
}

-- What a program gives for a graph where so many supersteps are allowed: the value that is printed of a
-- vertex at an instant at which it is alive, the supersteps that are made of those allowed, and the
-- calls in them. It starts from a vertex, where there is one.
pub record Meaning : Type 0 where
  pub source : Option ℕ
  pub printed_at : PlainGraph → (steps v t : ℕ) → Option (Option ℕ)
  pub made : PlainGraph → (steps : ℕ) → ℕ
  pub calls : PlainGraph → (steps : ℕ) → ℕ

-- the graph at one instant, as the program sees it
abbrev pub seen_at : {S M : Type 0} → Description S M → PlainGraph → ℕ → Snapshot S
seen_at program graph t = graph_at graph program.ask program.direction program.start t

-- at every instant the program makes its supersteps on the graph of that instant
abbrev pub meaning : {S M : Type 0} → Description S M → Meaning
meaning program = record {
  source = program.source;
  printed_at = λ graph steps v t. option_map program.printed (state_after program.plan (seen_at program graph t) steps v);
  made = λ graph steps. supersteps_made program.plan (seen_at program graph) (length graph.vertices) graph.horizon steps;
  calls = λ graph steps. calls_made program.order program.plan (seen_at program graph) (length graph.vertices) graph.horizon steps;
}

-- a program that makes no superstep: this is printed of a vertex's facts
abbrev pub meaning_at_once : Ask → (Facts → Option ℕ) → Meaning
meaning_at_once ask printed = record {
  source = None;
  printed_at = λ graph steps v t. option_map printed (facts_at graph ask v t);
  made = λ graph steps. 0;
  calls = λ graph steps. 0;
}
