-- Supersteps at every instant below a horizon: how many are made, and how often the program is called.
use Rattle.std.specs.Prelude.{ℕ, Bool, not, ◌&&◌, if◌then◌else◌, List, length, find, sum_by, unwrap_or}
use Rattle.std.specs.List.{list_any, list_all, range_with_len}
use Rattle.std.specs.Ordering.{is_eq}
use Rattle.std.specs.declared.cmp.Ordering.{Ordering}
use lib.Pointwise.{pointwise}
use Rattle.graphite_part.specs.Runs.{runs_of}
use Rattle.graphite_api.specs.Plan.{Plan}
use Rattle.graphite_api.specs.Snapshot.{Snapshot}
use Rattle.graphite_api.specs.Supersteps.{sends_in, input_in}

-- no vertex sends in superstep k, at any instant
unfoldable pub is_quiet : {S M : Type 0} → Plan S M → (ℕ → Snapshot S) → ℕ → ℕ → ℕ → Bool
is_quiet plan snapshots vertices horizon k =
    list_all (λ t. not (list_any (λ v. sends_in plan (snapshots t) k v) (range_with_len 0 vertices))) (range_with_len 0 horizon)

-- How many supersteps are made of the number allowed: all of them where every vertex always computes;
-- else up to the first in which no vertex sends at any instant, or all of them where there is none.
unfoldable pub supersteps_made : {S M : Type 0} → Plan S M → (ℕ → Snapshot S) → ℕ → ℕ → ℕ → ℕ
supersteps_made plan snapshots vertices horizon steps =
    if plan.always then steps
    else unwrap_or (find (λ k. is_quiet plan snapshots vertices horizon k) (range_with_len 1 steps)) steps

-- a test that two inputs are equal, by the orders of states and of notes
abbrev pub same_input : {S M : Type 0} → (S → S → Ordering) → (M → M → Ordering) → S × List M → S × List M → Bool
same_input order order' x y = is_eq (order x.0 y.0) && pointwise (λ note note'. is_eq (order' note note')) x.1 y.1

-- the calls in superstep k: for each vertex, the maximal runs of equal state and group over the
-- instants at which it computes
unfoldable pub calls_in : {S M : Type 0} → (S → S → Ordering) → Plan S M → (ℕ → Snapshot S) → ℕ → ℕ → ℕ → ℕ
calls_in order plan snapshots vertices horizon k =
    sum_by (λ v. length (runs_of (same_input order plan.order) (λ t. input_in plan (snapshots t) k v) horizon)) (range_with_len 0 vertices)

-- the calls in all supersteps that are made
unfoldable pub calls_made : {S M : Type 0} → (S → S → Ordering) → Plan S M → (ℕ → Snapshot S) → ℕ → ℕ → ℕ → ℕ
calls_made order plan snapshots vertices horizon steps =
    sum_by (calls_in order plan snapshots vertices horizon) (range_with_len 1 (supersteps_made plan snapshots vertices horizon steps))
