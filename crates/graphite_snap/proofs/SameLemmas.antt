-- Snapshots with the same starts, and the same links in any order: every program does the same on them.
use Rattle.std.proofs.Common.{◌≡◌, ◌∙◌, sym, ap, refl, ℕ, zero, suc, ◌+◌, ◌==◌, Bool, true, false, not, cond, List, [], ◌∷◌, filter, filter_map, length, sum_by, find, unwrap_or, Option, Some, None, option_map, arith}
use mathlib.Core.Path.{fun_ext}
use Rattle.std.specs.List.{list_any, list_all, range_with_len}
use Rattle.std.specs.Cmp.{IsTotalOrder}
use Rattle.std.specs.List.Sorted.{IsPermutation}
use Rattle.std.specs.declared.cmp.Ordering.{Ordering}
use Rattle.std.proofs.lemmas.List.Recursion.{is_sum_by}
use Rattle.std.proofs.lemmas.List.Sorted.{sum_by-IsPermutation}
use Rattle.graphite_part.specs.Plain.{IsExact}
use Rattle.graphite_part.specs.Runs.{runs_of}
use Rattle.graphite_part.specs.declared.piece.Piece.{Piece}
use Rattle.graphite_warp.proofs.SortedLemmas.{times, sorted_same}
use Rattle.graphite_api.specs.declared.next.Next.{Next}
use Rattle.graphite_api.specs.Plan.{Plan}
use Rattle.graphite_api.specs.Snapshot.{Link, Snapshot}
use Rattle.graphite_api.specs.Rules.{point_rules, idle, outcome_at, state_of, input_of}
use Rattle.graphite_api.specs.Supersteps.{note_along, notes_to, group_of, no_groups, groups_on, after, state_after, sends, sends_in, group_in, input_in}
use Rattle.graphite_api.specs.Calls.{is_quiet, supersteps_made, same_input, calls_in, calls_made}
use Rattle.graphite_loop.specs.Points.{IsPointRun}

-- the same starts, and the same links in any order
pub record AreAlike {S : Type 0} (old new : Snapshot S) : Type 0 where
  pub starts : (v : ℕ) → old.start v ≡ new.start v
  pub links : IsPermutation old.links new.links

module _ {S M : Type 0} (plan : Plan S M) (total : IsTotalOrder plan.order) (exact : IsExact plan.order) where
  -- how often a note comes along one link to v
  abbrev brings : M → (ℕ → Option (Next S)) → ℕ → Link → ℕ
  brings note outcomes v link = times plan.order total note (notes_to plan (link ∷ []) outcomes v)

  times-more : (note : M) (o : Option M) (notes : List M) → times plan.order total note (Rattle.std.specs.List.cons_option o notes) ≡ times plan.order total note (Rattle.std.specs.List.cons_option o []) + times plan.order total note notes
  times-more note None notes = omega arith
  times-more note (Some other) notes = omega arith

  brings-more : (note : M) (outcomes : ℕ → Option (Next S)) (v : ℕ) (link : Link) (links : List Link) → times plan.order total note (notes_to plan (link ∷ links) outcomes v) ≡ brings note outcomes v link + times plan.order total note (notes_to plan links outcomes v)
  brings-more note outcomes v link links = by (link.to == v)
    where
      by : (b : Bool) → times plan.order total note (filter_map (λ link. note_along plan (outcomes link.from) link) (cond b (link ∷ filter (λ link. link.to == v) links) (filter (λ link. link.to == v) links)))
          ≡ times plan.order total note (filter_map (λ link. note_along plan (outcomes link.from) link) (cond b (link ∷ []) [])) + times plan.order total note (notes_to plan links outcomes v)
      by true = times-more note (note_along plan (outcomes link.from) link) (notes_to plan links outcomes v)
      by false = omega arith

  -- the group of v is the same for the links in any order
  group_of-moved : (old new : List Link) (outcomes : ℕ → Option (Next S)) (v : ℕ) → IsPermutation old new → group_of plan old outcomes v ≡ group_of plan new outcomes v
  group_of-moved old new outcomes v moved =
      sorted_same plan.order total exact (notes_to plan old outcomes v) (notes_to plan new outcomes v) (λ note.
      is_sum_by (λ links. times plan.order total note (notes_to plan links outcomes v)) (brings note outcomes v) refl (brings-more note outcomes v) old
      ∙ sym (sum_by-IsPermutation (brings note outcomes v) old new moved)
      ∙ sym (is_sum_by (λ links. times plan.order total note (notes_to plan links outcomes v)) (brings note outcomes v) refl (brings-more note outcomes v) new))

  module _ (old new : Snapshot S) (alike : AreAlike old new) where
    groups_on-same : (k : ℕ) → ((v : ℕ) → after plan old k v ≡ after plan new k v) → (v : ℕ) → groups_on plan old.links no_groups k (after plan old k) v ≡ groups_on plan new.links no_groups k (after plan new k) v
    groups_on-same zero same v = refl
    groups_on-same (suc k) same v =
        group_of-moved old.links new.links (after plan old (suc k)) v alike.links
        ∙ ap (λ outcomes. group_of plan new.links outcomes v) (fun_ext same)

    pub after-same : (k v : ℕ) → after plan old k v ≡ after plan new k v
    after-same zero v = ap (option_map idle) (alike.starts v)
    after-same (suc k) v =
        ap (outcome_at (point_rules plan) (suc k) (state_of (after plan old k v))) (groups_on-same k (after-same k) v)
        ∙ ap (λ own. outcome_at (point_rules plan) (suc k) (state_of own) (groups_on plan new.links no_groups k (after plan new k) v)) (after-same k v)

    pub state_after-same : (k v : ℕ) → state_after plan old k v ≡ state_after plan new k v
    state_after-same k v = ap state_of (after-same k v)

    pub sends_in-same : (k v : ℕ) → sends_in plan old k v ≡ sends_in plan new k v
    sends_in-same k v = ap sends (after-same k v)

    pub group_in-same : (k v : ℕ) → group_in plan old k v ≡ group_in plan new k v
    group_in-same zero v = refl
    group_in-same (suc k) v = groups_on-same k (after-same k) v

    pub input_in-same : (k v : ℕ) → input_in plan old k v ≡ input_in plan new k v
    input_in-same zero v = refl
    input_in-same (suc k) v =
        ap (λ state. input_of (point_rules plan) (suc k) state (group_in plan old (suc k) v)) (state_after-same k v)
        ∙ ap (input_of (point_rules plan) (suc k) (state_after plan new k v)) (group_in-same (suc k) v)

  -- the same at every instant
  module _ (old new : ℕ → Snapshot S) (alike : (t : ℕ) → AreAlike (old t) (new t)) (vertices horizon : ℕ) where
    pub is_quiet-same : (k : ℕ) → is_quiet plan old vertices horizon k ≡ is_quiet plan new vertices horizon k
    unfolding is_quiet
    is_quiet-same k =
        ap (λ (f : ℕ → ℕ → Bool). list_all (λ t. not (list_any (λ v. f t v) (range_with_len 0 vertices))) (range_with_len 0 horizon))
        (fun_ext (λ t. fun_ext (λ v. sends_in-same (old t) (new t) (alike t) k v)))

    pub supersteps_made-same : (steps : ℕ) → supersteps_made plan old vertices horizon steps ≡ supersteps_made plan new vertices horizon steps
    unfolding supersteps_made
    supersteps_made-same steps =
        ap (λ (f : ℕ → Bool). cond plan.always steps (unwrap_or (find (λ k. f k) (range_with_len 1 steps)) steps)) (fun_ext is_quiet-same)

    pub calls_in-same : (order : S → S → Ordering) (k : ℕ) → calls_in order plan old vertices horizon k ≡ calls_in order plan new vertices horizon k
    unfolding calls_in
    calls_in-same order k =
        ap (λ (f : ℕ → ℕ → Option (S × List M)). sum_by (λ v. length (runs_of (same_input order plan.order) (λ t. f v t) horizon)) (range_with_len 0 vertices))
        (fun_ext (λ v. fun_ext (λ t. input_in-same (old t) (new t) (alike t) k v)))

    pub calls_made-same : (order : S → S → Ordering) (steps : ℕ) → calls_made order plan old vertices horizon steps ≡ calls_made order plan new vertices horizon steps
    unfolding calls_made
    calls_made-same order steps =
        ap (λ (f : ℕ → ℕ). sum_by f (range_with_len 1 (supersteps_made plan old vertices horizon steps))) (fun_ext (calls_in-same order))
        ∙ ap (λ n. sum_by (calls_in order plan new vertices horizon) (range_with_len 1 n)) (supersteps_made-same steps)

    -- a run on the ones is a run on the others
    pub run-same : (order : S → S → Ordering) (steps : ℕ) (states : List (List (Piece S))) (made : ℕ) (settled : Bool) (calls : ℕ) → IsPointRun order plan old vertices horizon steps states made settled calls → IsPointRun order plan new vertices horizon steps states made settled calls
    run-same order steps states made settled calls run = record {
      states_len = run.states_len;
      states_are = λ v among. record {
        in_order = (run.states_are v among).in_order;
        values = λ t. (run.states_are v among).values t ∙ state_after-same (old t) (new t) (alike t) steps v;
      };
      made_is = run.made_is ∙ supersteps_made-same steps;
      settled_is = run.settled_is ∙ is_quiet-same made;
      calls_are = run.calls_are ∙ calls_made-same order steps;
    }
