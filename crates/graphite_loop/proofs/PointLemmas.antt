-- One superstep over all instants at once is, at every instant, one superstep on that instant's graph.
use Rattle.std.proofs.Common.{◌≡◌, ◌∙◌, sym, ap, refl, subst, ℕ, zero, suc, ◌<◌, ◌≤◌, Bool, List, [], length, Option, Some, None, option_map, arith, ⊎_elim}
use Rattle.std.proofs.lemmas.Bool.{cases_lt}
use Rattle.std.proofs.lemmas.List.{get_or_past}
use Rattle.graphite_part.specs.declared.piece.Piece.{Piece}
use Rattle.graphite_part.specs.Pieces.{value_at, IsChain, AreRuns}
use Rattle.graphite_warp.specs.Warp.{notes_at}
use Rattle.graphite_api.specs.declared.arc.Arc.{Arc}
use Rattle.graphite_api.specs.declared.next.Next.{Next}
use Rattle.graphite_api.specs.Plan.{Plan}
use Rattle.graphite_api.specs.Rules.{point_rules, idle, outcome_at, state_of, input_of}
use Rattle.graphite_api.specs.Supersteps.{groups_on, number_after, going_on, no_groups, after, state_after, input_in}
use Rattle.graphite_api.proofs.SuperstepLemmas.{none_on, after-none}
use Rattle.graphite_loop.specs.Sweep.{sent_of}
use Rattle.graphite_loop.specs.Superstep.{Standing, list_at, state_at, group_at, outcome_in, input_at, IsSuperstep}
use Rattle.graphite_loop.specs.Run.{IsStart}
use Rattle.graphite_loop.specs.Points.{instant_of, links_of, StandsOn, StandsAfter}
use Rattle.graphite_loop.proofs.NoteLemmas.{notes_at-delivered}

-- nothing is in the list of a vertex that there is not
pub list_at-past : {X : Type 0} (lists : List (List X)) (v : ℕ) → length lists ≤ v → list_at lists v ≡ []
list_at-past lists v past = get_or_past lists v [] past

pub state_at-past : {S M : Type 0} (now : Standing S M) (v t : ℕ) → length now.states ≤ v → state_at now v t ≡ None
state_at-past now v t past = ap (λ pieces. value_at pieces t) (list_at-past now.states v past)

-- what stands before the first superstep
pub stands_first : {S M : Type 0} (plan : Plan S M) (arcs : List Arc) (init : List (List (Piece S))) (now : Standing S M) → IsStart init now → StandsAfter plan arcs init zero now
stands_first {S} plan arcs init now start = record {
  states_len = ap length start.states;
  states_are = λ v t. ap (λ states. value_at (list_at states v) t) start.states ∙ kept (value_at (list_at init v) t);
  groups_are = λ v t within. ap (λ inbox. notes_at plan.order inbox t) (start.inboxes v);
}
  where
    kept : (o : Option S) → o ≡ state_of (option_map idle o)
    kept None = refl
    kept (Some state) = refl

-- a superstep that goes on from any states and groups
module _ {S M : Type 0} (plan : Plan S M) (arcs : List Arc) (k : ℕ) (states : ℕ → ℕ → Option S) (groups : ℕ → ℕ → List M) (vertices : ℕ) (past : (v t : ℕ) → vertices ≤ v → states t v ≡ None) (n : ℕ) (old : Standing S M) (before : StandsOn plan (links_of arcs) k states groups vertices n old) where
  -- what each vertex has after so many
  abbrev on : ℕ → ℕ → ℕ → Option (Next S)
  on n t v = going_on plan (links_of arcs t) k (states t) (groups t) n v

  abbrev told : ℕ → ℕ → List M
  told t v = groups_on plan (links_of arcs t) (groups t) n (on n t) v

  -- where there is no such vertex, it has nothing
  on-past : (n v t : ℕ) → vertices ≤ v → on n t v ≡ None
  on-past n v t late = none_on plan (links_of arcs t) k (states t) (groups t) n v (past v t late)

  -- the outcome of a vertex at an instant
  pub outcome_on : (v t : ℕ) → outcome_in (point_rules plan) (number_after k (suc n)) old v t ≡ on (suc n) t v
  outcome_on v t =
      ⊎_elim
      (λ (among : v < vertices).
      ap (λ o. outcome_at (point_rules plan) (number_after k (suc n)) o (group_at (point_rules plan) old v t)) (before.states_are v t)
      ∙ ap (outcome_at (point_rules plan) (number_after k (suc n)) (state_of (on n t v))) (before.groups_are v t among))
      (λ (late : vertices ≤ v).
      ap (λ o. outcome_at (point_rules plan) (number_after k (suc n)) o (group_at (point_rules plan) old v t)) (state_at-past old v t (omega (arith, late, before.states_len)))
      ∙ sym (on-past (suc n) v t late))
      (cases_lt v vertices)

  -- with what a vertex computes at an instant
  pub input_on : (v t : ℕ) → v < vertices → input_at (point_rules plan) (number_after k (suc n)) old v t ≡ input_of (point_rules plan) (number_after k (suc n)) (state_of (on n t v)) (told t v)
  input_on v t among =
      ap (λ o. input_of (point_rules plan) (number_after k (suc n)) o (group_at (point_rules plan) old v t)) (before.states_are v t)
      ∙ ap (input_of (point_rules plan) (number_after k (suc n)) (state_of (on n t v))) (before.groups_are v t among)

  module _ (new : Standing S M) (answer : Bool) (calls_old calls_new : ℕ) (step : IsSuperstep (point_rules plan) arcs (number_after k (suc n)) old new answer calls_old calls_new) where
    -- the pieces of the states that are sent
    sent_chain : (u : ℕ) → IsChain (list_at step.sent u)
    sent_chain u =
        ⊎_elim (λ (among : u < length old.states). (step.sent_are u among).in_order)
        (λ (late : length old.states ≤ u). subst IsChain (sym (list_at-past step.sent u (omega (arith, late, step.sent_len)))) tt)
        (cases_lt u (length old.states))

    sent_value : (t u : ℕ) → value_at (list_at step.sent u) t ≡ sent_of (on (suc n) t u)
    sent_value t u =
        ⊎_elim (λ (among : u < length old.states). (step.sent_are u among).values t ∙ ap sent_of (outcome_on u t))
        (λ (late : length old.states ≤ u).
        ap (λ pieces. value_at pieces t) (list_at-past step.sent u (omega (arith, late, step.sent_len)))
        ∙ sym (ap sent_of (on-past (suc n) u t (omega (arith, late, before.states_len)))))
        (cases_lt u (length old.states))

    -- the states after the superstep are runs of what it leaves at each instant
    pub states_on : (v : ℕ) → v < vertices → AreRuns (λ t. state_of (on (suc n) t v)) (list_at new.states v)
    states_on v among =
        let runs = step.states_are v (omega (arith, among, before.states_len)) in
        record { in_order = runs.in_order; values = λ t. runs.values t ∙ ap state_of (outcome_on v t) }

    -- what stands after the superstep
    pub stands_on : StandsOn plan (links_of arcs) k states groups vertices (suc n) new
    stands_on = record {
      states_len = step.states_len ∙ before.states_len;
      states_are = λ v t.
          ⊎_elim (λ (among : v < vertices). (states_on v among).values t)
          (λ (late : vertices ≤ v). state_at-past new v t (omega (arith, late, before.states_len, step.states_len)) ∙ sym (ap state_of (on-past (suc n) v t late)))
          (cases_lt v vertices);
      groups_are = λ v t among.
          ap (λ inbox. notes_at plan.order inbox t) (step.inboxes_are v (omega (arith, among, before.states_len)))
          ∙ notes_at-delivered plan (on (suc n) t) (λ u. list_at step.sent u) t sent_chain (sent_value t) arcs v;
    }

-- the same from the start
module _ {S M : Type 0} (plan : Plan S M) (arcs : List Arc) (init : List (List (Piece S))) (k : ℕ) (old : Standing S M) (before : StandsAfter plan arcs init k old) where
  start_past : (v t : ℕ) → length init ≤ v → (instant_of arcs init t).start v ≡ None
  start_past v t past = ap (λ pieces. value_at pieces t) (list_at-past init v past)

  pub after-past : (n v t : ℕ) → length init ≤ v → after plan (instant_of arcs init t) n v ≡ None
  after-past n v t past = after-none plan (instant_of arcs init t) n v (start_past v t past)

  pub outcome_is : (v t : ℕ) → outcome_in (point_rules plan) (suc k) old v t ≡ after plan (instant_of arcs init t) (suc k) v
  outcome_is v t =
      outcome_on plan arcs zero (λ t. (instant_of arcs init t).start) (λ t. no_groups) (length init) start_past k old before v t

  pub input_is : (v t : ℕ) → v < length init → input_at (point_rules plan) (suc k) old v t ≡ input_in plan (instant_of arcs init t) (suc k) v
  input_is v t among =
      input_on plan arcs zero (λ t. (instant_of arcs init t).start) (λ t. no_groups) (length init) start_past k old before v t among

  module _ (new : Standing S M) (answer : Bool) (calls_old calls_new : ℕ) (step : IsSuperstep (point_rules plan) arcs (suc k) old new answer calls_old calls_new) where
    pub states_after : (v : ℕ) → v < length init → AreRuns (λ t. state_after plan (instant_of arcs init t) (suc k) v) (list_at new.states v)
    states_after v among =
        states_on plan arcs zero (λ t. (instant_of arcs init t).start) (λ t. no_groups) (length init) start_past k old before new answer calls_old calls_new step v among

    pub stands_next : StandsAfter plan arcs init (suc k) new
    stands_next =
        stands_on plan arcs zero (λ t. (instant_of arcs init t).start) (λ t. no_groups) (length init) start_past k old before new answer calls_old calls_new step
