-- How many supersteps are made, and that stopping there changes nothing.
use Rattle.std.proofs.Common.{◌≡◌, ◌∙◌, sym, ap, refl, ℕ, ◌<◌, ◌≤◌, Bool, true, false, not, find, unwrap_or, Option, Some, None, arith, ⊎_elim}
use Rattle.std.specs.List.{range_with_len}
use Rattle.std.proofs.lemmas.Bool.{cond-true, cond-false, cases_lt}
use Rattle.graphite_api.specs.Plan.{Plan}
use Rattle.graphite_api.specs.Snapshot.{Snapshot}
use Rattle.graphite_api.specs.Supersteps.{after, sends, sends_in}
use Rattle.graphite_api.specs.Calls.{is_quiet, supersteps_made}
use Rattle.graphite_api.proofs.RangeLemmas.{all_in_range, all_from_range, none_in_range, none_from_range, find-range, find-range_none, found_in_range}
use Rattle.graphite_api.proofs.SuperstepLemmas.{silent_for_good, after-none}

not_true : (b : Bool) → not b ≡ true → b ≡ false
not_true false e = refl
not_true true e = cc

module _ {S M : Type 0} (plan : Plan S M) (snapshots : ℕ → Snapshot S) (vertices horizon : ℕ) where
  -- a superstep is quiet exactly where no vertex sends at any instant
  pub quiet_from : (k : ℕ) → ((t v : ℕ) → t < horizon → v < vertices → sends_in plan (snapshots t) k v ≡ false) → is_quiet plan snapshots vertices horizon k ≡ true
  unfolding is_quiet
  quiet_from k none =
      all_from_range _ 0 horizon (λ t low high. ap not (none_from_range (λ v. sends_in plan (snapshots t) k v) 0 vertices (λ v l h. none t v (omega (arith, high)) (omega (arith, h)))))

  pub quiet_at : (k : ℕ) → is_quiet plan snapshots vertices horizon k ≡ true → (t v : ℕ) → t < horizon → v < vertices → sends_in plan (snapshots t) k v ≡ false
  unfolding is_quiet
  quiet_at k quiet t v within among =
      none_in_range (λ v. sends_in plan (snapshots t) k v) 0 vertices (not_true _ (all_in_range _ 0 horizon quiet t (omega arith) (omega (arith, within)))) v (omega arith) (omega (arith, among))

  -- all supersteps are made where every vertex always computes
  pub made-always : (steps : ℕ) → plan.always ≡ true → supersteps_made plan snapshots vertices horizon steps ≡ steps
  unfolding supersteps_made
  made-always steps always = cond-true _ _ _ always

  -- else up to the first quiet one
  pub made-quiet : (steps k : ℕ) → plan.always ≡ false → 1 ≤ k → k ≤ steps → ((j : ℕ) → 1 ≤ j → j < k → is_quiet plan snapshots vertices horizon j ≡ false) → is_quiet plan snapshots vertices horizon k ≡ true → supersteps_made plan snapshots vertices horizon steps ≡ k
  unfolding supersteps_made
  made-quiet steps k always first within others here =
      cond-false _ _ _ always ∙ ap (λ o. unwrap_or o steps) (find-range (λ j. is_quiet plan snapshots vertices horizon j) 1 steps k first (omega (arith, within)) others here)

  -- or all of them
  pub made-all : (steps : ℕ) → plan.always ≡ false → ((j : ℕ) → 1 ≤ j → j ≤ steps → is_quiet plan snapshots vertices horizon j ≡ false) → supersteps_made plan snapshots vertices horizon steps ≡ steps
  unfolding supersteps_made
  made-all steps always others =
      cond-false _ _ _ always ∙ ap (λ o. unwrap_or o steps) (find-range_none (λ j. is_quiet plan snapshots vertices horizon j) 1 steps (λ j low high. others j low (omega (arith, high))))

  -- the outcomes of the supersteps made are those of all supersteps
  pub stop_changes_nothing : (steps t v : ℕ) → t < horizon → ((w : ℕ) → vertices ≤ w → (snapshots t).start w ≡ None) → after plan (snapshots t) (supersteps_made plan snapshots vertices horizon steps) v ≡ after plan (snapshots t) steps v
  unfolding supersteps_made
  stop_changes_nothing steps t v within others = by plan.always refl
    where
      silent : (k : ℕ) → is_quiet plan snapshots vertices horizon k ≡ true → (w : ℕ) → sends_in plan (snapshots t) k w ≡ false
      silent k quiet w =
          ⊎_elim (λ (among : w < vertices). quiet_at k quiet t w within among)
          (λ (past : vertices ≤ w). ap sends (after-none plan (snapshots t) k w (others w past)))
          (cases_lt w vertices)

      found : plan.always ≡ false → (o : Option ℕ) → find (λ j. is_quiet plan snapshots vertices horizon j) (range_with_len 1 steps) ≡ o → after plan (snapshots t) (unwrap_or o steps) v ≡ after plan (snapshots t) steps v
      found always None e = refl
      found always (Some k) e =
          let is = found_in_range _ 1 steps k e in
          sym (silent_for_good plan (snapshots t) k steps always is.low (silent k is.passes) (omega (arith, is.high)) v)

      by : (b : Bool) → plan.always ≡ b → after plan (snapshots t) (supersteps_made plan snapshots vertices horizon steps) v ≡ after plan (snapshots t) steps v
      by true always = ap (λ n. after plan (snapshots t) n v) (cond-true _ _ _ always)
      by false always = ap (λ n. after plan (snapshots t) n v) (cond-false _ _ _ always) ∙ found always _ refl
