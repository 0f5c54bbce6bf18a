-- The best of values, and where it changes.
use Rattle.std.proofs.Common.{◌≡◌, refl, sym, ap, subst, ◌∙◌, ℕ, Bool, true, false, not, IsTrue, List, [], ◌∷◌, Option, None, Some, inl, inr, ◌⊎◌, ⊎_elim, is_some, ◌==◌}
use Rattle.std.specs.List.{Contains}
use Rattle.std.proofs.lemmas.Option.{none-some, same_Some}
use Rattle.std.proofs.lemmas.Bool.{false≢true, cond-true, cond-false, true_from_ne_false, not_from_true, false_from_ne_true, eqb-true}
use Rattle.graphite_api.specs.Best.{IsBest}
use Rattle.graphite_api.specs.Values.{Values, AreLawful, better_of, best_of, is_better, best_next}
use Rattle.graphite_api.proofs.BestLemmas.{IsBest-other, IsBest-one}
use Rattle.graphite_api.proofs.MemberLemmas.{Contains-first, Contains-later, Contains-cases, Contains-nil}

module _ (values : Values) (lawful : AreLawful values) where
  -- the first of two values is as good as the second
  abbrev AsGood : ℕ → ℕ → Type 0
  AsGood x y = IsTrue (values.good x y)

  -- the best is one
  pub best_is_one : (P : ℕ → Type 0) (o p : Option ℕ) → IsBest AsGood P o → IsBest AsGood P p → o ≡ p
  best_is_one P o p h g = IsBest-one AsGood P o p lawful.one h g

  -- the better of two is one of them
  pub better_of-is : (state : Option ℕ) (y : ℕ) → (state ≡ Some (better_of values.good state y)) ⊎ (y ≡ better_of values.good state y)
  better_of-is None y = inr refl
  better_of-is (Some x) y = by (values.good x y) refl
    where
      by : (b : Bool) → values.good x y ≡ b → (Some x ≡ Some (better_of values.good (Some x) y)) ⊎ (y ≡ better_of values.good (Some x) y)
      by true e = inl (ap Some (sym (cond-true _ x y e)))
      by false e = inr (sym (cond-false _ x y e))

  -- and as good as the first
  pub better_of-first : (state : Option ℕ) (x y : ℕ) → state ≡ Some x → AsGood (better_of values.good state y) x
  better_of-first None x y is = absurd (none-some x is)
  better_of-first (Some z) x y is = subst (AsGood (better_of values.good (Some z) y)) (same_Some z x is) (by (values.good z y) refl)
    where
      by : (b : Bool) → values.good z y ≡ b → AsGood (better_of values.good (Some z) y) z
      by true e = subst (λ b. AsGood b z) (sym (cond-true _ z y e)) (lawful.itself z)
      by false e = subst (λ b. AsGood b z) (sym (cond-false _ z y e))
          (⊎_elim (λ (h : AsGood z y). absurd (false≢true (sym e ∙ h))) (λ (h : AsGood y z). h) (lawful.either z y))

  -- and as the second
  pub better_of-second : (state : Option ℕ) (y : ℕ) → AsGood (better_of values.good state y) y
  better_of-second None y = lawful.itself y
  better_of-second (Some z) y = by (values.good z y) refl
    where
      by : (b : Bool) → values.good z y ≡ b → AsGood (better_of values.good (Some z) y) y
      by true e = subst (λ b. AsGood b y) (sym (cond-true _ z y e)) e
      by false e = subst (λ b. AsGood b y) (sym (cond-false _ z y e)) (lawful.itself y)

  -- the best of a value, if there is one, and a group is the best of what they hold
  pub best_of_is_best : (state : Option ℕ) (group : List ℕ) → IsBest AsGood (λ x. (state ≡ Some x) ⊎ Contains group x) (best_of values.good state group)
  best_of_is_best None [] = λ x h. ⊎_elim (λ (is : None ≡ Some x). none-some x is) (λ (among : Contains [] x). Contains-nil x among) h
  best_of_is_best (Some b) [] = (
    inl refl,
    λ y h. ⊎_elim
        (λ (is : Some b ≡ Some y). subst (AsGood b) (same_Some b y is) (lawful.itself b))
        (λ (among : Contains [] y). absurd (Contains-nil y among))
        h,
  )
  best_of_is_best state (y ∷ ys) =
      IsBest-other AsGood (λ x. (state ≡ Some x) ⊎ Contains (y ∷ ys) x) (λ x. (Some better ≡ Some x) ⊎ Contains ys x) (best_of values.good (Some better) ys)
      lawful.through are reach (best_of_is_best (Some better) ys)
    where
      better : ℕ
      better = better_of values.good state y

      are : (x : ℕ) → (Some better ≡ Some x) ⊎ Contains ys x → (state ≡ Some x) ⊎ Contains (y ∷ ys) x
      are x (inr among) = inr (Contains-later x y ys among)
      are x (inl is) = ⊎_elim
          (λ (old : state ≡ Some better). inl (old ∙ is))
          (λ (new : y ≡ better). inr (Contains-first x y ys (new ∙ same_Some better x is)))
          (better_of-is state y)

      reach : (z : ℕ) → (state ≡ Some z) ⊎ Contains (y ∷ ys) z → (x : ℕ) × ((Some better ≡ Some x) ⊎ Contains ys x) × AsGood x z
      reach z (inl is) = (better, inl refl, better_of-first state z y is)
      reach z (inr among) = ⊎_elim
          (λ (is : y ≡ z). (better, inl refl, subst (AsGood better) is (better_of-second state y)))
          (λ (later : Contains ys z). (z, inr later, lawful.itself z))
          (Contains-cases z y ys among)

  -- where a vertex does not send, its value is unchanged
  pub not_better : (old new : Option ℕ) (group : List ℕ) → new ≡ best_of values.good old group → is_better values.good old new ≡ false → new ≡ old
  not_better old new group is quiet = by old new (subst (IsBest AsGood (λ x. (old ≡ Some x) ⊎ Contains group x)) (sym is) (best_of_is_best old group)) quiet
    where
      by : (old new : Option ℕ) → IsBest AsGood (λ x. (old ≡ Some x) ⊎ Contains group x) new → is_better values.good old new ≡ false → new ≡ old
      by None None best quiet = refl
      by (Some x) None best quiet = absurd (best x (inl refl))
      by None (Some y) best quiet = absurd (false≢true (sym quiet))
      by (Some x) (Some y) best quiet = ap Some (lawful.one y x (best.1 x (inl refl)) (true_from_ne_false _ (λ e. absurd (false≢true (sym quiet ∙ ap not e)))))

  -- a vertex that sends has changed
  pub better_is_new : (old new : Option ℕ) → is_better values.good old new ≡ true → new ≡ old → ⊥
  better_is_new old None sends same = absurd (false≢true sends)
  better_is_new None (Some y) sends same = absurd (none-some y (sym same))
  better_is_new (Some x) (Some y) sends same =
      let as_good : AsGood x y = subst (AsGood x) (sym (same_Some y x same)) (lawful.itself x) in
      absurd (false≢true (sym (not_from_true _ as_good) ∙ sends))

-- in the first superstep a vertex keeps its value, and sends exactly where it has one
pub first_sends : (good : ℕ → ℕ → Bool) (state : Option ℕ) (group : List ℕ) → best_next good 1 state group ≡ record { state = state; send = is_some state }
first_sends good state group = refl

-- in a later one it takes the best of its value and the group, and sends exactly where that is better
pub later_sends : (good : ℕ → ℕ → Bool) (k : ℕ) (state : Option ℕ) (group : List ℕ) → (k ≡ 1 → ⊥) → best_next good k state group ≡ record { state = best_of good state group; send = is_better good state (best_of good state group) }
later_sends good k state group later = cond-false (k == 1) _ _ (false_from_ne_true (k == 1) (λ (is : (k == 1) ≡ true). later (eqb-true k 1 is)))
