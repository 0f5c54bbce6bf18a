-- Ranks on a small graph, by computing: two vertices, and one edge, from a to b.
use Rattle.std.proofs.Common.{◌≡◌, ℕ, ◌==◌, nat_lt, cond, List, [], ◌∷◌, Option, Some, None, option_map, refl, lit≤}
use Rattle.graphite_api.specs.Snapshot.{Link, Snapshot}
use Rattle.graphite_api.specs.Supersteps.{state_after}
use Rattle.graphite_snap.specs.declared.rank_state.RankState.{RankState}
use Rattle.graphite_snap.specs.Rank.{rank_plan, ranks}

abbrev links : List Link
links = record { from = 0; to = 1; time = 1; cost = 1 } ∷ []

-- one edge leads out of a, and none out of b
abbrev outdegree : ℕ → ℕ
outdegree v = cond (v == 0) 1 0

abbrev start : ℕ → Option RankState
start v = cond (nat_lt v 2) (Some (record { rank = 500000000; outdegree = outdegree v; n = 2; proper = lit≤ tt })) None

abbrev pair : Snapshot RankState
pair = record { start = start; links = links }

abbrev rank_after : ℕ → ℕ → Option ℕ
rank_after k v = option_map (λ s. s.rank) (state_after rank_plan pair k v)

first : rank_after 1 1 ≡ Some 500000000
first = refl

second_a : rank_after 2 0 ≡ Some 75000000
second_a = refl

second_b : rank_after 2 1 ≡ Some 500000000
second_b = refl

third_b : rank_after 3 1 ≡ Some 138750000
third_b = refl

-- a vertex that is not alive has none
not_alive : rank_after 3 2 ≡ None
not_alive = refl

rounds : ranks 2 outdegree links 2 1 ≡ 138750000
rounds = refl
