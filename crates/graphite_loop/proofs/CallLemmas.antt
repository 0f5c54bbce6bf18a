-- The calls of a superstep over all instants at once are the maximal runs of equal state and group.
use Rattle.std.proofs.Common.{◌≡◌, ◌∙◌, sym, ap, refl, ℕ, suc, ◌+◌, ◌<◌, ◌≤◌, Bool, List, [], ◌∷◌, length, get_or, sum_by, None, arith, Ordering}
use Rattle.std.specs.List.{range_with_len}
use Rattle.std.specs.Cmp.{IsTotalOrder}
use Rattle.std.proofs.lemmas.List.{length-map}
use Rattle.std.proofs.lemmas.List.Sums.{sum_by-cons}
use Rattle.graphite_part.specs.Plain.{IsExact}
use Rattle.graphite_part.specs.Runs.{runs_of}
use Rattle.graphite_part.specs.declared.piece.Piece.{Piece}
use Rattle.graphite_part.specs.Pieces.{AreRuns, run_of}
use Rattle.graphite_part.proofs.PiecesLemmas.{runs_of-pieces}
use Rattle.graphite_api.specs.declared.arc.Arc.{Arc}
use Rattle.graphite_api.specs.Plan.{Plan}
use Rattle.graphite_api.specs.Supersteps.{group_in, input_in}
use Rattle.graphite_api.specs.Calls.{same_input, calls_in}
use Rattle.graphite_api.proofs.CallLemmas.{same_input-tells}
use Rattle.graphite_api.specs.Rules.{point_rules, state_of, input_of}
use Rattle.graphite_loop.specs.Superstep.{Standing, list_at, IsSuperstep}
use Rattle.graphite_loop.specs.Points.{instant_of, StandsAfter}
use Rattle.graphite_loop.proofs.PointLemmas.{input_is}

-- a sum over lists is the sum over their numbers
sum_by-range : {X : Type 0} (f : X → ℕ) (g : ℕ → ℕ) (xs : List X) (d : X) (a : ℕ) → ((i : ℕ) → i < length xs → f (get_or xs i d) ≡ g (a + i)) → sum_by f xs ≡ sum_by g (range_with_len a (length xs))
sum_by-range f g [] d a same = refl
sum_by-range f g (x ∷ xs) d a same =
    let here : a + 0 ≡ a = omega arith in
    let first : f x ≡ g a = same 0 (omega arith) ∙ ap g here in
    let rest = sum_by-range f g xs d (a + 1) (λ i within. (let e : a + suc i ≡ a + 1 + i = omega arith in same (suc i) (omega (arith, within)) ∙ ap g e)) in
    sum_by-cons f x xs ∙ ap (λ n. n + sum_by f xs) first ∙ ap (λ n. g a + n) rest ∙ sym (sum_by-cons g a (range_with_len (a + 1) (length xs)))

module _ {S M : Type 0} (order : S → S → Ordering) (plan : Plan S M) (total : IsTotalOrder order) (exact : IsExact order) (total' : IsTotalOrder plan.order) (exact' : IsExact plan.order) (arcs : List Arc) (init : List (List (Piece S))) (horizon : ℕ) (past : (v t : ℕ) → horizon ≤ t → (instant_of arcs init t).start v ≡ None) where
  no_input : (k v t : ℕ) → horizon ≤ t → input_in plan (instant_of arcs init t) (suc k) v ≡ None
  no_input k v t late =
      ap (λ o. input_of (point_rules plan) (suc k) o (group_in plan (instant_of arcs init t) (suc k) v)) (ap state_of (Rattle.graphite_api.proofs.SuperstepLemmas.after-none plan (instant_of arcs init t) k v (past v t late)))

  module _ (k : ℕ) (old : Standing S M) (before : StandsAfter plan arcs init k old) (new : Standing S M) (answer : Bool) (calls_old calls_new : ℕ) (step : IsSuperstep (point_rules plan) arcs (suc k) old new answer calls_old calls_new) where
    -- of one vertex
    vertex_calls : (v : ℕ) → v < length init → length (list_at step.inputs v) ≡ length (runs_of (same_input order plan.order) (λ t. input_in plan (instant_of arcs init t) (suc k) v) horizon)
    vertex_calls v among =
        let runs = step.inputs_are v (omega (arith, among, before.states_len)) in
        let is : AreRuns (λ t. input_in plan (instant_of arcs init t) (suc k) v) (list_at step.inputs v) =
        record { in_order = runs.in_order; values = λ t. runs.values t ∙ input_is plan arcs init k old before v t among } in
        sym (length-map (list_at step.inputs v) run_of) ∙ ap length (runs_of-pieces (same_input order plan.order) (same_input-tells order plan.order exact total exact' total') _ horizon (list_at step.inputs v) is (λ t late. no_input k v t late))

    -- of all vertices
    pub superstep_calls : calls_new ≡ calls_old + calls_in order plan (instant_of arcs init) (length init) horizon (suc k)
    unfolding calls_in
    superstep_calls =
        let many : length step.inputs ≡ length init = step.inputs_len ∙ before.states_len in
        step.counted ∙ ap (λ n. calls_old + n)
        (sum_by-range length (λ v. length (runs_of (same_input order plan.order) (λ t. input_in plan (instant_of arcs init t) (suc k) v) horizon)) step.inputs [] 0 (λ v within.
        (let same : v ≡ 0 + v = omega arith in vertex_calls v (omega (arith, within, many)) ∙ ap (λ n. length (runs_of (same_input order plan.order) (λ t. input_in plan (instant_of arcs init t) (suc k) n) horizon)) same))
        ∙ ap (λ n. sum_by (λ v. length (runs_of (same_input order plan.order) (λ t. input_in plan (instant_of arcs init t) (suc k) v) horizon)) (range_with_len 0 n)) many)
