-- What a run at one instant keeps from superstep to superstep.
use Rattle.std.proofs.Common.{◌≡◌, ◌∙◌, sym, ap, refl, subst, ℕ, zero, suc, ◌+◌, ◌*◌, ◌^◌, ◌<◌, ◌≤◌, Bool, true, false, cond, List, [], ◌∷◌, length, get_or, map, All, count_by, sum_by, Option, Some, None, option_map, is_some, arith, add-one, ⊎_elim}
use Rattle.std.specs.List.{range_with_len}
use Rattle.std.specs.declared.cmp.Ordering.{Ordering}
use mathlib.Core.Path.{fun_ext}
use Rattle.std.proofs.Math.Nat.{suc-mul, mul-le-mul}
use Rattle.std.proofs.lemmas.Bool.{cases_lt}
use Rattle.std.proofs.lemmas.List.Elements.{All-filter, filter_passes}
use Rattle.graphite_time.specs.declared.interval.Interval.{Interval}
use Rattle.graphite_time.specs.Interval.{start_of, end_of, holds}
use Rattle.graphite_time.proofs.LifeLemmas.{holds-true}
use Rattle.graphite_part.specs.Runs.{with_instant, runs_of}
use Rattle.graphite_api.specs.declared.arc.Arc.{Arc}
use Rattle.graphite_api.specs.declared.next.Next.{Next}
use Rattle.graphite_api.specs.Plan.{Plan}
use Rattle.graphite_api.specs.Table.{IsArcOn}
use Rattle.graphite_api.specs.Snapshot.{Snapshot, arcs_at}
use Rattle.graphite_api.specs.Rules.{point_rules, outcome_at, state_of, input_of}
use Rattle.graphite_api.specs.Supersteps.{after, superstep, state_after, group_of, input_in, sends, sends_in}
use Rattle.graphite_api.specs.Calls.{is_quiet, supersteps_made, same_input, calls_in, calls_made}
use Rattle.graphite_api.specs.Outcomes.{entry_of, IsTaken}
use Rattle.graphite_api.proofs.RangeLemmas.{sum_by-range_more, count_by-range-le}
use Rattle.graphite_api.proofs.MadeLemmas.{quiet_from, quiet_at, made-always, made-quiet, made-all}
use Rattle.graphite_api.proofs.SuperstepLemmas.{silent_for_good, group_in-next}

-- the arcs of a table that hold an instant can be taken there
pub taken_at : (lives : List (List Interval)) (arcs : List Arc) (t n : ℕ) (now : Interval) → start_of now ≡ t → end_of now ≡ t + 1 → n ≡ length lives → All (IsArcOn lives) arcs → All (IsTaken now n) (arcs_at arcs t)
taken_at lives arcs t n now start end len all = λ k d within.
    let arc = get_or (arcs_at arcs t) k d in
    let held = holds-true arc.over t (filter_passes (λ arc. holds arc.over t) arcs k d within) in
    let on = All-filter (λ arc. holds arc.over t) (IsArcOn lives) arcs all k d within in
    record {
      starts = omega (arith, held.0, start);
      ends = omega (arith, held.1, end);
      to = omega (arith, on.to, len);
    }

entry_of-map : {S : Type 0} (outcomes : List (Option (Next S))) (v : ℕ) → entry_of (map state_of outcomes) v ≡ state_of (entry_of outcomes v)
entry_of-map [] v = refl
entry_of-map (own ∷ outcomes) zero = refl
entry_of-map (own ∷ outcomes) (suc v) = entry_of-map outcomes v

-- the states of the outcomes
pub states_of : {S : Type 0} (outcomes : List (Option (Next S))) (states : List (Option S)) (v : ℕ) (o : Option (Next S)) → states ≡ map state_of outcomes → entry_of outcomes v ≡ o → entry_of states v ≡ option_map (λ own. own.state) o
states_of outcomes states v o is own = ap (λ xs. entry_of xs v) is ∙ entry_of-map outcomes v ∙ ap state_of own

module _ {S M : Type 0} (order : S → S → Ordering) (plan : Plan S M) (snapshot : Snapshot S) (n : ℕ) where
  -- one superstep more
  pub after-next : (k : ℕ) (outcomes : ℕ → Option (Next S)) → ((v : ℕ) → outcomes v ≡ after plan snapshot k v) → (v : ℕ) → superstep plan (k + 1) outcomes (group_of plan snapshot.links outcomes) v ≡ after plan snapshot (k + 1) v
  after-next k outcomes is v =
      ap (λ (all : ℕ → Option (Next S)). superstep plan (k + 1) all (group_of plan snapshot.links all) v) (fun_ext is)
      ∙ ap (λ m. superstep plan m (after plan snapshot k) (group_of plan snapshot.links (after plan snapshot k)) v) (add-one k)
      ∙ ap (outcome_at (point_rules plan) (suc k) (state_after plan snapshot k v)) (group_in-next plan snapshot k v)
      ∙ ap (λ m. after plan snapshot m v) (sym (add-one k))

  input_in-next : (k : ℕ) (outcomes : ℕ → Option (Next S)) → ((v : ℕ) → outcomes v ≡ after plan snapshot k v) → (v : ℕ) → input_of (point_rules plan) (k + 1) (state_of (outcomes v)) (group_of plan snapshot.links outcomes v) ≡ input_in plan snapshot (k + 1) v
  input_in-next k outcomes is v =
      ap (λ (all : ℕ → Option (Next S)). input_of (point_rules plan) (k + 1) (state_of (all v)) (group_of plan snapshot.links all v)) (fun_ext is)
      ∙ ap (λ m. input_of (point_rules plan) m (state_after plan snapshot k v) (group_of plan snapshot.links (after plan snapshot k) v)) (add-one k)
      ∙ ap (input_of (point_rules plan) (suc k) (state_after plan snapshot k v)) (group_in-next plan snapshot k v)
      ∙ ap (λ m. input_in plan snapshot m v) (sym (add-one k))

  -- at one instant the calls are those of the vertices that compute
  calls_in-one : (k : ℕ) → calls_in order plan (λ _. snapshot) n 1 k ≡ count_by (λ v. is_some (input_in plan snapshot k v)) (range_with_len 0 n)
  unfolding calls_in runs_of
  calls_in-one k = ap (λ (f : ℕ → ℕ). sum_by f (range_with_len 0 n)) (fun_ext (λ v. one (input_in plan snapshot k v)))
    where
      one : (o : Option (S × List M)) → length (with_instant (same_input order plan.order) 0 o []) ≡ cond (is_some o) 1 0
      one None = refl
      one (Some input) = refl

  pub called : (k : ℕ) (outcomes : ℕ → Option (Next S)) → ((v : ℕ) → outcomes v ≡ after plan snapshot k v) → count_by (λ v. is_some (input_of (point_rules plan) (k + 1) (state_of (outcomes v)) (group_of plan snapshot.links outcomes v))) (range_with_len 0 n) ≡ calls_in order plan (λ _. snapshot) n 1 (k + 1)
  called k outcomes is =
      ap (λ (p : ℕ → Bool). count_by p (range_with_len 0 n)) (fun_ext (λ v. ap is_some (input_in-next k outcomes is v))) ∙ sym (calls_in-one (k + 1))

  -- the calls in the first k supersteps
  abbrev pub calls_to : ℕ → ℕ
  calls_to k = sum_by (calls_in order plan (λ _. snapshot) n 1) (range_with_len 1 k)

  pub calls_to-more : (k : ℕ) → calls_to (k + 1) ≡ calls_to k + calls_in order plan (λ _. snapshot) n 1 (k + 1)
  calls_to-more k = sum_by-range_more (calls_in order plan (λ _. snapshot) n 1) 1 k (k + 1) (omega arith)

  pub calls_after : (k first before count more : ℕ) → before ≡ first + calls_to k → count ≡ before + more → more ≡ calls_in order plan (λ _. snapshot) n 1 (k + 1) → count ≡ first + calls_to (k + 1)
  calls_after k first before count more is next same =
      let all = calls_to-more k in
      omega (arith, is, next, same, all)

  -- they are few
  pub calls_to-le : (k : ℕ) → calls_to k ≤ k * n
  calls_to-le zero = omega arith
  calls_to-le (suc k) =
      let next = calls_to-more k in
      let few = calls_in-one (k + 1) in
      let some = count_by-range-le (λ v. is_some (input_in plan snapshot (k + 1) v)) n in
      let product = suc-mul k n in
      subst (λ m. calls_to m ≤ suc k * n) (add-one k) (omega (arith, next, few, some, product, calls_to-le k))

  -- so there is room for those of one superstep more
  pub calls_to-room : (k first count : ℕ) → first < 2 ^ 127 → count ≡ first + calls_to k → k < 2 ^ 32 → n < 2 ^ 32 → count + n < 2 ^ 128
  calls_to-room k first count room is few some =
      let all = calls_to-le k in
      let product : k * n ≤ 2 ^ 32 * 2 ^ 32 = mul-le-mul {n₁ = k} {m₁ = n} {n₂ = 2 ^ 32} {m₂ = 2 ^ 32} (omega (arith, few)) (omega (arith, some)) in
      omega (arith, room, is, few, some, all, product)

  -- they are at most one for each vertex and superstep, also where the last superstep was not finished
  pub calls_to-most : (k steps first count : ℕ) → k ≤ steps → count ≡ first + calls_to k → count ≤ first + steps * n
  calls_to-most k steps first count few is =
      let all = calls_to-le k in
      let product : k * n ≤ steps * n = mul-le-mul {n₁ = k} {m₁ = n} {n₂ = steps} {m₂ = n} few (omega arith) in
      omega (arith, is, all, product)

  pub calls_to-most_more : (k steps first count now more : ℕ) → k < steps → count ≡ first + calls_to k → now ≤ count + more → more ≡ n → now ≤ first + steps * n
  calls_to-most_more k steps first count now more few is next same =
      let all = calls_to-le k in
      let one = suc-mul k n in
      let product : suc k * n ≤ steps * n = mul-le-mul {n₁ = suc k} {m₁ = n} {n₂ = steps} {m₂ = n} (omega (arith, few)) (omega arith) in
      omega (arith, is, next, all, one, product, same)

  -- supersteps that were made and were not the last
  abbrev pub GoesOn : ℕ → Type 0
  GoesOn k = (j : ℕ) → 1 ≤ j → j ≤ k → plan.always ≡ false → is_quiet plan (λ _. snapshot) n 1 j ≡ false

  pub goes_on-more : (k : ℕ) (outcomes : ℕ → Option (Next S)) → GoesOn k → ((v : ℕ) → outcomes v ≡ after plan snapshot (k + 1) v) → (plan.always ≡ false → (v : ℕ) × ((v < n) × (sends (outcomes v) ≡ true))) → GoesOn (k + 1)
  goes_on-more k outcomes before is sending j low high always =
      ⊎_elim (λ (less : j < k + 1). before j low (omega (arith, less)) always)
      (λ (ge : k + 1 ≤ j).
      let same : j ≡ k + 1 = omega (arith, high, ge) in
      let sender = sending always in
      by j sender.0 sender.1.0 (ap (λ m. sends_in plan snapshot m sender.0) same ∙ ap sends (sym (is sender.0)) ∙ sender.1.1) (is_quiet plan (λ _. snapshot) n 1 j) refl)
      (cases_lt j (k + 1))
    where
      not_both : true ≡ false → ⊥
      not_both e = cc

      by : (j v : ℕ) → v < n → sends_in plan snapshot j v ≡ true → (b : Bool) → is_quiet plan (λ _. snapshot) n 1 j ≡ b → b ≡ false
      by j v among sent true quiet = absurd (not_both (sym sent ∙ quiet_at plan (λ _. snapshot) n 1 j quiet 0 v (omega arith) among))
      by j v among sent false quiet = refl

  -- where they stop
  module _ (steps k : ℕ) (within : k + 1 ≤ steps) (before : GoesOn k) (always : plan.always ≡ false) (outcomes : ℕ → Option (Next S)) (is : (v : ℕ) → outcomes v ≡ after plan snapshot (k + 1) v) (silent : (v : ℕ) → sends (outcomes v) ≡ false) where
    none_sends : (v : ℕ) → sends_in plan snapshot (k + 1) v ≡ false
    none_sends v = ap sends (sym (is v)) ∙ silent v

    pub stopped-made : supersteps_made plan (λ _. snapshot) n 1 steps ≡ k + 1
    stopped-made =
        made-quiet plan (λ _. snapshot) n 1 steps (k + 1) always (omega arith) within (λ j low high. before j low (omega (arith, high)) always)
        (quiet_from plan (λ _. snapshot) n 1 (k + 1) (λ t v early among. none_sends v))

    pub stopped-outcomes : (v : ℕ) → outcomes v ≡ after plan snapshot steps v
    stopped-outcomes v = is v ∙ sym (silent_for_good plan snapshot (k + 1) steps always (omega arith) none_sends within v)

  -- where they do not
  pub all-made : (steps : ℕ) → GoesOn steps → supersteps_made plan (λ _. snapshot) n 1 steps ≡ steps
  all-made steps before = by plan.always refl
    where
      by : (b : Bool) → plan.always ≡ b → supersteps_made plan (λ _. snapshot) n 1 steps ≡ steps
      by true always = made-always plan (λ _. snapshot) n 1 steps always
      by false always = made-all plan (λ _. snapshot) n 1 steps always (λ j low high. before j low high always)

  -- all calls
  pub calls_made-is : (steps made : ℕ) → supersteps_made plan (λ _. snapshot) n 1 steps ≡ made → calls_made order plan (λ _. snapshot) n 1 steps ≡ calls_to made
  unfolding calls_made
  calls_made-is steps made is = ap calls_to is

-- as many states as vertices
pub length-states : {S : Type 0} (outcomes : List (Option (Next S))) (states : List (Option S)) (n : ℕ) → states ≡ map state_of outcomes → length outcomes ≡ n → length states ≡ n
length-states {S} outcomes states n is len = ap length is ∙ length-map_state outcomes ∙ len
  where
    length-map_state : (xs : List (Option (Next S))) → length (map state_of xs) ≡ length xs
    length-map_state [] = refl
    length-map_state (x ∷ xs) = ap suc (length-map_state xs)
