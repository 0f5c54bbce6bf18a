-- Programs of snapshots, which see one instant at a time, over all instants at once.
use Rattle.std.specs.Prelude.{◌≡◌, ℕ, zero, ◌<◌, ◌≤◌, Bool, false, List, length, map, Option}
use Rattle.std.specs.declared.cmp.Ordering.{Ordering}
use Rattle.graphite_time.specs.declared.interval.Interval.{Interval}
use Rattle.graphite_part.specs.declared.piece.Piece.{Piece}
use Rattle.graphite_part.specs.Pieces.{value_at, AreRuns}
use Rattle.graphite_api.specs.declared.arc.Arc.{Arc}
use Rattle.graphite_api.specs.Plan.{Plan}
use Rattle.graphite_api.specs.Snapshot.{Link, Snapshot, link_of, arcs_at}
use Rattle.graphite_api.specs.Supersteps.{groups_on, going_on, no_groups, state_after}
use Rattle.graphite_api.specs.Calls.{is_quiet, supersteps_made, calls_made}
use Rattle.graphite_api.specs.Table.{vertex_is_alive}
use Rattle.graphite_api.specs.Rules.{point_rules, state_of}
use Rattle.graphite_loop.specs.Superstep.{Standing, list_at, state_at, group_at}

-- the graph at an instant: the vertices that have a state to start with then, and the arcs that hold it
abbrev pub instant_of : {S : Type 0} → List Arc → List (List (Piece S)) → ℕ → Snapshot S
instant_of arcs init t = record {
  start = λ v. value_at (list_at init v) t;
  links = map link_of (arcs_at arcs t);
}

-- What stands is at every instant what n supersteps leave on that instant's graph which go on after k of them,
-- from these states and groups: each vertex's state, and the group that it is told for the next superstep.
pub record StandsOn {S M : Type 0} (plan : Plan S M) (links : ℕ → List Link) (k : ℕ) (states : ℕ → ℕ → Option S) (groups : ℕ → ℕ → List M) (vertices n : ℕ) (now : Standing S M) : Type 0 where
  pub states_len : length now.states ≡ vertices
  pub states_are : (v t : ℕ) → state_at now v t ≡ state_of (going_on plan (links t) k (states t) (groups t) n v)
  pub groups_are : (v t : ℕ) → v < vertices → group_at (point_rules plan) now v t ≡ groups_on plan (links t) (groups t) n (going_on plan (links t) k (states t) (groups t) n) v

-- the links of the arcs that hold an instant
abbrev pub links_of : List Arc → ℕ → List Link
links_of arcs t = map link_of (arcs_at arcs t)

-- what stands after k supersteps from the start
abbrev pub StandsAfter : {S M : Type 0} → Plan S M → List Arc → List (List (Piece S)) → ℕ → Standing S M → Type 0
StandsAfter plan arcs init k now =
    StandsOn plan (links_of arcs) zero (λ t. (instant_of arcs init t).start) (λ t. no_groups) (length init) k now

-- the states to start with, instant by instant
abbrev pub initial_at : {S : Type 0} → List (List (Piece S)) → ℕ → ℕ → Option S
initial_at init v t = value_at (list_at init v) t

-- no vertex lives at the horizon or after it
abbrev pub EndBy : ℕ → List (List Interval) → Type 0
EndBy horizon lives = (v t : ℕ) → horizon ≤ t → vertex_is_alive lives v t ≡ false

-- A run of at most so many supersteps over all instants at once. The states of each vertex are at every
-- instant those after all of these supersteps on that instant's graph, in pieces as long as can be;
-- all are made where every vertex always computes, and else those up to the first in which no vertex
-- sends at any instant; and the program is called once for each maximal run of equal state and group.
pub record IsPointRun {S M : Type 0} (order : S → S → Ordering) (plan : Plan S M) (snapshots : ℕ → Snapshot S) (vertices horizon steps : ℕ) (states : List (List (Piece S))) (made : ℕ) (settled : Bool) (calls : ℕ) : Type 0 where
  pub states_len : length states ≡ vertices
  pub states_are : (v : ℕ) → v < vertices → AreRuns (λ t. state_after plan (snapshots t) steps v) (list_at states v)
  pub made_is : made ≡ supersteps_made plan snapshots vertices horizon steps
  pub settled_is : settled ≡ is_quiet plan snapshots vertices horizon made
  pub calls_are : calls ≡ calls_made order plan snapshots vertices horizon steps
