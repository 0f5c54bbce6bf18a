-- Supersteps on small graphs, by computing.
use Rattle.std.proofs.Common.{◌≡◌, ◌==◌, ℕ, true, false, cond, List, [], ◌∷◌, map, Option, Some, None, nat_eq, nat_lt, refl, lit<, lit≤}
use Rattle.std.specs.Option.{option_eq, option_cmp}
use Rattle.std.specs.Ordering.{nat_cmp}
use Rattle.graphite_time.specs.declared.interval.Interval.{Interval}
use Rattle.graphite_part.specs.Runs.{Run, runs_of}
use Rattle.graphite_api.specs.declared.arc.Arc.{Arc}
use Rattle.graphite_api.specs.declared.next.Next.{Next}
use Rattle.graphite_api.specs.Plan.{Plan}
use Rattle.graphite_api.specs.Snapshot.{Snapshot, snapshot_at, both_ways}
use Rattle.graphite_api.specs.Supersteps.{state_after, group_in, input_in}
use Rattle.graphite_api.specs.Calls.{is_quiet, supersteps_made, calls_in, calls_made}
use Rattle.graphite_api.specs.BreadthFirst.{breadth_first}

-- an arc of time and cost 1
abbrev pub arc : ℕ → ℕ → ℕ → Interval → Arc
arc edge from to over = record { from = from; edge = edge; over = over; to = to; time = 1; cost = 1; stay = over }

run : {X : Type 0} → ℕ → ℕ → X → Run X
run from until value = record { from = from; until = until; value = value }

abbrev pub from0to5 : Interval
from0to5 = record { a = 0; b = 5; proper = (lit< tt, lit≤ tt) }

abbrev pub from0to10 : Interval
from0to10 = record { a = 0; b = 10; proper = (lit< tt, lit≤ tt) }

abbrev pub from2to8 : Interval
from2to8 = record { a = 2; b = 8; proper = (lit< tt, lit≤ tt) }

abbrev pub from3to7 : Interval
from3to7 = record { a = 3; b = 7; proper = (lit< tt, lit≤ tt) }

-- Three vertices a, b and c; an edge from a to b over the instants 0 to 4, and one from b to c over 3 to 6.
abbrev pub lives : List (List Interval)
lives = (from0to10 ∷ []) ∷ (from0to10 ∷ []) ∷ (from2to8 ∷ []) ∷ []

abbrev pub arcs : List Arc
arcs = arc 0 0 1 from0to5 ∷ arc 1 1 2 from3to7 ∷ []

-- a is the source
abbrev from_a : ℕ → ℕ → Option (Option ℕ)
from_a v t = Some (cond (v == 0) (Some 0) None)

abbrev stops : ℕ → Snapshot (Option ℕ)
stops t = snapshot_at lives arcs from_a t

states_a : runs_of (option_eq nat_eq) (λ t. state_after breadth_first (stops t) 4 0) 10 ≡ run 0 10 (Some 0) ∷ []
unfolding runs_of run
states_a = refl

states_b : runs_of (option_eq nat_eq) (λ t. state_after breadth_first (stops t) 4 1) 10 ≡ run 0 5 (Some 1) ∷ run 5 10 None ∷ []
unfolding runs_of run
states_b = refl

states_c : runs_of (option_eq nat_eq) (λ t. state_after breadth_first (stops t) 4 2) 10 ≡ run 2 3 None ∷ run 3 5 (Some 2) ∷ run 5 8 None ∷ []
unfolding runs_of run
states_c = refl

-- after one superstep only a has a number
states_b_at_first : runs_of (option_eq nat_eq) (λ t. state_after breadth_first (stops t) 1 1) 10 ≡ run 0 10 None ∷ []
unfolding runs_of run
states_b_at_first = refl

made : supersteps_made breadth_first stops 3 10 4 ≡ 4
unfolding supersteps_made is_quiet
made = refl

made_at_most_one : supersteps_made breadth_first stops 3 10 1 ≡ 1
unfolding supersteps_made is_quiet
made_at_most_one = refl

calls : calls_made (option_cmp nat_cmp) breadth_first stops 3 10 4 ≡ 5
unfolding calls_made calls_in supersteps_made is_quiet runs_of
calls = refl

-- Numbers that spread along edges, both ways: each vertex starts with its own and takes the least.
abbrev least_taken : ℕ → ℕ → List ℕ → Next ℕ
least_taken k own [] = record { state = own; send = k == 1 }
least_taken k own (note ∷ group) = cond (nat_lt note own) (record { state = note; send = true }) (record { state = own; send = k == 1 })

abbrev least_number : Plan ℕ ℕ
least_number = record { next = least_taken; note = λ own time cost. Some own; order = nat_cmp; always = false }

abbrev own_number : ℕ → ℕ → Option ℕ
own_number v t = Some v

abbrev stops_both_ways : ℕ → Snapshot ℕ
stops_both_ways t =
    let snapshot = snapshot_at lives arcs own_number t in
    record snapshot { links = both_ways snapshot.links }

components_a : runs_of nat_eq (λ t. state_after least_number (stops_both_ways t) 4 0) 10 ≡ run 0 10 0 ∷ []
unfolding runs_of run
components_a = refl

components_b : runs_of nat_eq (λ t. state_after least_number (stops_both_ways t) 4 1) 10 ≡ run 0 5 0 ∷ run 5 10 1 ∷ []
unfolding runs_of run
components_b = refl

components_c : runs_of nat_eq (λ t. state_after least_number (stops_both_ways t) 4 2) 10 ≡ run 2 3 2 ∷ run 3 5 0 ∷ run 5 7 1 ∷ run 7 8 2 ∷ []
unfolding runs_of run
components_c = refl

components_made : supersteps_made least_number stops_both_ways 3 10 4 ≡ 4
unfolding supersteps_made is_quiet
components_made = refl

components_calls : map (calls_in nat_cmp least_number stops_both_ways 3 10) (1 ∷ 2 ∷ 3 ∷ 4 ∷ []) ≡ 3 ∷ 5 ∷ 4 ∷ 1 ∷ []
unfolding calls_in runs_of
components_calls = refl

-- a link from a vertex to itself tells it twice where edges lead both ways, and the repeat is kept
abbrev loop : Snapshot ℕ
loop = record { start = λ v. Some v; links = both_ways (record { from = 3; to = 3; time = 1; cost = 1 } ∷ []) }

told_twice : group_in least_number loop 2 3 ≡ 3 ∷ 3 ∷ []
told_twice = refl

-- a vertex that is not alive has no state, does not compute and tells nobody: c at instant 1
not_alive : state_after breadth_first (stops 1) 4 2 ≡ None
not_alive = refl

no_input : input_in breadth_first (stops 1) 1 2 ≡ None
no_input = refl

-- Two vertices, and two edges from a to b, one over the instants 0 to 2 and one over 3 to 5: what b is
-- told is the same at all instants, so it is called once. Where the edges overlap, it is told twice.
abbrev from0to3 : Interval
from0to3 = record { a = 0; b = 3; proper = (lit< tt, lit≤ tt) }

abbrev from3to6 : Interval
from3to6 = record { a = 3; b = 6; proper = (lit< tt, lit≤ tt) }

abbrev from0to4 : Interval
from0to4 = record { a = 0; b = 4; proper = (lit< tt, lit≤ tt) }

abbrev from2to6 : Interval
from2to6 = record { a = 2; b = 6; proper = (lit< tt, lit≤ tt) }

abbrev from0to6 : Interval
from0to6 = record { a = 0; b = 6; proper = (lit< tt, lit≤ tt) }

abbrev pair : List Arc → ℕ → Snapshot (Option ℕ)
pair arcs t = snapshot_at ((from0to6 ∷ []) ∷ (from0to6 ∷ []) ∷ []) arcs from_a t

calls_of_touching : calls_made (option_cmp nat_cmp) breadth_first (pair (arc 0 0 1 from0to3 ∷ arc 1 0 1 from3to6 ∷ [])) 2 6 3 ≡ 3
unfolding calls_made calls_in supersteps_made is_quiet runs_of
calls_of_touching = refl

calls_of_overlapping : calls_made (option_cmp nat_cmp) breadth_first (pair (arc 0 0 1 from0to4 ∷ arc 1 0 1 from2to6 ∷ [])) 2 6 3 ≡ 5
unfolding calls_made calls_in supersteps_made is_quiet runs_of
calls_of_overlapping = refl
