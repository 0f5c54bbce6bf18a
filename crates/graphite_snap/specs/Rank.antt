-- The rank of each vertex, in billionths, and the equation for it: a vertex divides its rank evenly among the edges
-- that lead out of it, and makes its new rank of the shares that it is told.
use Rattle.std.specs.Prelude.{◌≡◌, ◌-◌, ℕ, zero, suc, ◌+◌, ◌*◌, ◌/◌, ◌==◌, nat_lt, min, true, if◌then◌else◌, List, filter, sum, sum_by, Option, None, Some}
use Rattle.std.specs.Ordering.{nat_cmp}
use Rattle.graphite_text.specs.Graph.{PlainGraph, out_degree}
use Rattle.graphite_graph.specs.declared.facts.Ask.{Ask}
use Rattle.graphite_graph.specs.declared.facts.Facts.{Facts}
use Rattle.graphite_graph.specs.Facts.{number_alive}
use Rattle.graphite_api.specs.declared.next.Next.{Next}
use Rattle.graphite_api.specs.Plan.{Plan}
use Rattle.graphite_api.specs.Snapshot.{Link}
use Rattle.graphite_hops.specs.declared.direction.Direction.TheVariants.{Out}
use Rattle.graphite_hops.specs.Links.{links_at}
use Rattle.graphite_snap.specs.Description.{Description}
use Rattle.graphite_snap.specs.RankLaws.{begun_with, rank_order}
use Rattle.graphite_snap.specs.declared.rank_state.RankState.{RankState}
use Rattle.graphite_snap.specs.declared.rank.TheConstants.{SCALE}

-- The rank that the shares give which a vertex is told, where n vertices are alive: 15 hundredths of all ranks are
-- spread evenly over the vertices, and 85 hundredths go along the edges.
abbrev pub rank_of : (n shares : ℕ) → ℕ
rank_of n shares = min SCALE (SCALE * 15 / 100 / n + 85 * shares / 100)

-- a vertex keeps what it has in the first superstep, and later takes the rank that its group gives
abbrev pub ranked : ℕ → RankState → List ℕ → RankState
ranked k state group = if k == 1 then state else record state { rank = rank_of state.n (sum group) }

-- a vertex sends in every superstep, if edges lead out of it
abbrev pub rank_next : ℕ → RankState → List ℕ → Next RankState
rank_next k state group = record { state = ranked k state group; send = nat_lt 0 state.outdegree }

-- a vertex tells its share; an edge's time and cost do not matter
abbrev pub rank_note : RankState → ℕ → ℕ → Option ℕ
rank_note state time cost = if nat_lt 0 state.outdegree then Some (state.rank / state.outdegree) else None

abbrev pub rank_plan : Plan RankState ℕ
rank_plan = record { next = rank_next; note = rank_note; order = nat_cmp; always = true }

-- The rank of v after k rounds, of n vertices that are alive with these out-degrees: they start with equal ranks.
-- No edge leads out of a vertex with the out-degree 0, and x / 0 is 0.
abbrev pub ranks : (n : ℕ) → (outdegree : ℕ → ℕ) → List Link → (k v : ℕ) → ℕ
ranks n outdegree links zero v = SCALE / n
ranks n outdegree links (suc k) v =
    rank_of n (sum_by (λ link. ranks n outdegree links k link.from / outdegree link.from) (filter (λ link. link.to == v) links))

-- the out-degree, and the number of vertices that are alive
abbrev pub outdegree_and_n : Ask
outdegree_and_n = record { outdegree = true; n = true; key = None }

-- all vertices start with equal ranks
abbrev pub rank_start : Facts → RankState
rank_start facts = begun_with (SCALE / facts.n) facts.outdegree facts.n

abbrev pub rank : Description RankState ℕ
rank = record {
  source = None;
  ask = outdegree_and_n;
  direction = Out;
  start = rank_start;
  plan = rank_plan;
  order = rank_order;
  printed = λ state. Some state.rank;
}

-- in plain words: the rank after one round fewer than the supersteps, by the vertices and edges that are alive at the instant
abbrev pub rank_equation : PlainGraph → (steps v t : ℕ) → Option ℕ → Type 0
rank_equation graph steps v t value =
    value ≡ Some (ranks (number_alive graph t) (λ u. out_degree graph u t) (links_at graph t) (steps - 1) v)
