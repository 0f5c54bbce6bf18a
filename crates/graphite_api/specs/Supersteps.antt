-- Supersteps on one snapshot: what each vertex is told, and its outcome.
use Rattle.std.specs.Prelude.{ℕ, zero, suc, Bool, false, ◌==◌, if◌then◌else◌, List, [], filter, filter_map, Option, None, Some, option_map}
use Rattle.std.specs.Option.{option_map_or}
use Rattle.graphite_warp.specs.Sorted.{sorted}
use Rattle.graphite_api.specs.declared.next.Next.{Next}
use Rattle.graphite_api.specs.Plan.{Plan}
use Rattle.graphite_api.specs.Rules.{point_rules, idle, outcome_at, state_of, input_of}
use Rattle.graphite_api.specs.Snapshot.{Link, Snapshot}

-- the note along a link from a vertex with this outcome; no note where it is not alive or does not send
abbrev pub note_along : {S M : Type 0} → Plan S M → Option (Next S) → Link → Option M
note_along plan None link = None
note_along plan (Some sender) link = if sender.send then plan.note sender.state link.time link.cost else None

-- the notes along the links to v, from the outcomes of the vertices
abbrev pub notes_to : {S M : Type 0} → Plan S M → List Link → (ℕ → Option (Next S)) → ℕ → List M
notes_to plan links outcomes v =
    filter_map (λ link. note_along plan (outcomes link.from) link) (filter (λ link. link.to == v) links)

-- the group of v: those notes in rising order, repeats kept
abbrev pub group_of : {S M : Type 0} → Plan S M → List Link → (ℕ → Option (Next S)) → ℕ → List M
group_of plan links outcomes v = sorted plan.order (notes_to plan links outcomes v)

-- superstep k: the outcome of each vertex, from the outcomes before it and the groups
abbrev pub superstep : {S M : Type 0} → Plan S M → ℕ → (ℕ → Option (Next S)) → (ℕ → List M) → ℕ → Option (Next S)
superstep plan k outcomes groups v = outcome_at (point_rules plan) k (state_of (outcomes v)) (groups v)

-- the groups that are read after n further supersteps: before the first of them those given, and later what
-- the vertices tell by their outcomes
abbrev pub groups_on : {S M : Type 0} → Plan S M → List Link → (ℕ → List M) → ℕ → (ℕ → Option (Next S)) → ℕ → List M
groups_on plan links groups zero outcomes v = groups v
groups_on plan links groups (suc n) outcomes v = group_of plan links outcomes v

-- the number of the n-th superstep after k of them
abbrev pub number_after : ℕ → ℕ → ℕ
number_after zero n = n
number_after (suc k) n = suc (number_after k n)

-- Supersteps that go on after k of them, which left these states and groups: the outcome of each vertex after
-- n further ones, numbered from k + 1, and nothing where it is not alive.
abbrev pub going_on : {S M : Type 0} → Plan S M → List Link → ℕ → (ℕ → Option S) → (ℕ → List M) → ℕ → ℕ → Option (Next S)
going_on plan links k states groups zero v = option_map idle (states v)
going_on plan links k states groups (suc n) v =
    let outcomes = going_on plan links k states groups n in
    superstep plan (number_after k (suc n)) outcomes (groups_on plan links groups n outcomes) v

-- no vertex is told anything before the first superstep
abbrev pub no_groups : {M : Type 0} → ℕ → List M
no_groups v = []

-- the outcome of each vertex after k supersteps, and nothing where it is not alive: they go on from the start
abbrev pub after : {S M : Type 0} → Plan S M → Snapshot S → ℕ → ℕ → Option (Next S)
after plan snapshot k v = going_on plan snapshot.links zero snapshot.start no_groups k v

-- the state of v after k supersteps, where it is alive
abbrev pub state_after : {S M : Type 0} → Plan S M → Snapshot S → ℕ → ℕ → Option S
state_after plan snapshot k v = state_of (after plan snapshot k v)

-- whether an outcome says that the vertex sends
abbrev pub sends : {S : Type 0} → Option (Next S) → Bool
sends outcome = option_map_or (λ own. own.send) outcome false

-- whether v sends in superstep k
abbrev pub sends_in : {S M : Type 0} → Plan S M → Snapshot S → ℕ → ℕ → Bool
sends_in plan snapshot k v = sends (after plan snapshot k v)

-- the group of v in superstep k, which are counted from 1
abbrev pub group_in : {S M : Type 0} → Plan S M → Snapshot S → ℕ → ℕ → List M
group_in plan snapshot zero v = []
group_in plan snapshot (suc k) v = groups_on plan snapshot.links no_groups k (after plan snapshot k) v

-- the state and the group with which v computes in superstep k, and nothing where it does not compute
abbrev pub input_in : {S M : Type 0} → Plan S M → Snapshot S → ℕ → ℕ → Option (S × List M)
input_in plan snapshot zero v = None
input_in plan snapshot (suc k) v =
    input_of (point_rules plan) (suc k) (state_after plan snapshot k v) (group_in plan snapshot (suc k) v)
