-- The sums of costs that a machine's number holds are the exact sums, where the lists are short enough.
use Rattle.std.proofs.Common.{◌≡◌, refl, sym, ◌∙◌, ℕ, ◌+◌, ◌-◌, ◌*◌, ◌^◌, ◌<◌, ◌≤◌, min, nat_le, Bool, IsTrue, List, [], ◌∷◌, length, Option, Some, None, arith}
use Rattle.std.proofs.lemmas.Bool.{leb-true, le-leb}
use Rattle.graphite_api.specs.declared.kind.Kind.TheVariants.{Cheapest}
use Rattle.graphite_api.specs.Hop.{Hop}
use Rattle.graphite_api.specs.KindValues.{values_of, saturating_values}
use Rattle.graphite_api.specs.Attained.{Attains, IsAttainedWithin, IsBestAttained, IsBestOfLists}
use Rattle.graphite_api.proofs.BestLemmas.{IsBest-same}

-- a sum below the greatest number is that sum
below-exact : (x : ℕ) → x < 2 ^ 64 → min x (2 ^ 64 - 1) ≡ x
below-exact x below = omega (arith, below)

module _ (alive : ℕ → ℕ → Bool) (IsHop : Hop → Type 0) (start : ℕ → ℕ → Option ℕ) where
  -- for each exact sum there is a saturating one that is not greater
  pub exact-saturating : (hops : List Hop) (v t x : ℕ) → Attains (values_of Cheapest) alive IsHop start hops v t x → (y : ℕ) × Attains saturating_values alive IsHop start hops v t y × (y ≤ x)
  exact-saturating [] v t x attains = (x, attains, omega arith)
  exact-saturating (hop ∷ hops) v t x attains =
      let before = exact-saturating hops hop.from hop.depart attains.3.0 attains.3.1 in
      let le = before.2 in
      let is = attains.3.2 in (
        min (before.0 + hop.cost) (2 ^ 64 - 1),
        (attains.0, attains.1, attains.2, (before.0, before.1, refl)),
        omega (arith, le, is),
      )

  module _ (costs : (hop : Hop) → IsHop hop → hop.cost < 2 ^ 32) (free : (v t x : ℕ) → start v t ≡ Some x → x ≡ 0) where
    -- a sum of n costs is at most n times the greatest one
    pub sum-bound : (hops : List Hop) (v t x : ℕ) → Attains (values_of Cheapest) alive IsHop start hops v t x → x ≤ length hops * 2 ^ 32
    sum-bound [] v t x attains = let none = free v t x attains in omega (arith, none)
    sum-bound (hop ∷ hops) v t x attains =
        let before = sum-bound hops hop.from hop.depart attains.3.0 attains.3.1 in
        let cost = costs hop attains.0 in
        let is = attains.3.2 in
        omega (arith, before, cost, is)

    -- the sum of fewer than 2 ^ 21 costs is the saturating one
    sum-small : (hops : List Hop) (v t x cost : ℕ) → length hops < 2 ^ 21 → cost < 2 ^ 32 → Attains (values_of Cheapest) alive IsHop start hops v t x → min (x + cost) (2 ^ 64 - 1) ≡ x + cost
    sum-small hops v t x cost short less attains =
        let bound = sum-bound hops v t x attains in
        below-exact (x + cost) (omega (arith, bound, short, less))

    pub exact-short : (hops : List Hop) (v t x : ℕ) → length hops < 2 ^ 21 → Attains (values_of Cheapest) alive IsHop start hops v t x → Attains saturating_values alive IsHop start hops v t x
    exact-short [] v t x short attains = attains
    exact-short (hop ∷ hops) v t x short attains =
        let less : length hops < 2 ^ 21 = omega (arith, short) in
        let before = exact-short hops hop.from hop.depart attains.3.0 less attains.3.1 in
        (attains.0, attains.1, attains.2, (attains.3.0, before, sum-small hops hop.from hop.depart attains.3.0 hop.cost less (costs hop attains.0) attains.3.1 ∙ attains.3.2))

    pub saturating-short : (hops : List Hop) (v t x : ℕ) → length hops < 2 ^ 21 → Attains saturating_values alive IsHop start hops v t x → Attains (values_of Cheapest) alive IsHop start hops v t x
    saturating-short [] v t x short attains = attains
    saturating-short (hop ∷ hops) v t x short attains =
        let less : length hops < 2 ^ 21 = omega (arith, short) in
        let before = saturating-short hops hop.from hop.depart attains.3.0 less attains.3.1 in
        (attains.0, attains.1, attains.2, (attains.3.0, before, sym (sum-small hops hop.from hop.depart attains.3.0 hop.cost less (costs hop attains.0) before) ∙ attains.3.2))

    -- so the best of lists of fewer than k hops are the same
    to-saturating : (k v t x : ℕ) → k ≤ 2 ^ 21 → IsAttainedWithin (values_of Cheapest) alive IsHop start k v t x → IsAttainedWithin saturating_values alive IsHop start k v t x
    to-saturating k v t x most attained =
        let short = attained.1 in
        (attained.0, short, exact-short attained.0 v t x (omega (arith, short, most)) attained.2)

    to-exact : (k v t x : ℕ) → k ≤ 2 ^ 21 → IsAttainedWithin saturating_values alive IsHop start k v t x → IsAttainedWithin (values_of Cheapest) alive IsHop start k v t x
    to-exact k v t x most attained =
        let short = attained.1 in
        (attained.0, short, saturating-short attained.0 v t x (omega (arith, short, most)) attained.2)

    pub saturating-within : (k v t : ℕ) (o : Option ℕ) → k ≤ 2 ^ 21 → IsBestAttained (values_of Cheapest) alive IsHop start k v t o → IsBestAttained saturating_values alive IsHop start k v t o
    saturating-within k v t o most best =
        IsBest-same (λ x y. IsTrue (nat_le x y)) (IsAttainedWithin (values_of Cheapest) alive IsHop start k v t) (IsAttainedWithin saturating_values alive IsHop start k v t) o
        (λ x. to-saturating k v t x most) (λ x. to-exact k v t x most) best

    pub exact-within : (k v t : ℕ) (o : Option ℕ) → k ≤ 2 ^ 21 → IsBestAttained saturating_values alive IsHop start k v t o → IsBestAttained (values_of Cheapest) alive IsHop start k v t o
    exact-within k v t o most best =
        IsBest-same (λ x y. IsTrue (nat_le x y)) (IsAttainedWithin saturating_values alive IsHop start k v t) (IsAttainedWithin (values_of Cheapest) alive IsHop start k v t) o
        (λ x. to-exact k v t x most) (λ x. to-saturating k v t x most) best

    -- the best saturating sum of all lists, where it is that of fewer than 2 ^ 21 hops, is the best exact sum of all lists
    pub exact-lists : (k v t : ℕ) (o : Option ℕ) → k ≤ 2 ^ 21 → IsBestAttained saturating_values alive IsHop start k v t o → IsBestOfLists saturating_values alive IsHop start v t o → IsBestOfLists (values_of Cheapest) alive IsHop start v t o
    exact-lists k v t None most within best = λ x attained.
        let other = exact-saturating attained.0 v t x attained.1 in
        best other.0 (attained.0, other.1)
    exact-lists k v t (Some b) most within best = (
      let attained = to-exact k v t b most within.0 in (attained.0, attained.2),
      λ x attained.
          let other = exact-saturating attained.0 v t x attained.1 in
          let le = other.2 in
          let good = leb-true b other.0 (best.1 other.0 (attained.0, other.1)) in
          le-leb b x (omega (arith, le, good)),
    )
