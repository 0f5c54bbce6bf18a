-- The best values of lists of hops: how they follow from each other as the lists grow longer, and when they no longer
-- change.
use Rattle.std.proofs.Common.{◌≡◌, refl, subst, ℕ, suc, ◌<◌, ◌≤◌, Bool, IsTrue, List, [], ◌∷◌, length, Option, None, Some, arith, inl, inr}
use Rattle.std.proofs.lemmas.Option.{none-some, same_Some}
use Rattle.graphite_api.specs.Best.{IsBest}
use Rattle.graphite_api.specs.Hop.{Hop}
use Rattle.graphite_api.specs.Values.{Values, AreLawful}
use Rattle.graphite_api.specs.Attained.{Attains, IsAttainedWithin, IsBestAttained, IsBestOfLists, IsOneMore}
use Rattle.graphite_api.proofs.BestLemmas.{IsBest-other, IsBest-at, IsBest-is, IsBest-part}

module _ (values : Values) (lawful : AreLawful values) (alive : ℕ → ℕ → Bool) (IsHop : Hop → Type 0) (start : ℕ → ℕ → Option ℕ) where
  abbrev AsGood : ℕ → ℕ → Type 0
  AsGood x y = IsTrue (values.good x y)

  abbrev Attained : List Hop → (v t x : ℕ) → Type 0
  Attained hops v t x = Attains values alive IsHop start hops v t x

  abbrev Within : (k v t x : ℕ) → Type 0
  Within k v t x = IsAttainedWithin values alive IsHop start k v t x

  -- no list is shorter than none
  pub nothing_within_none : (v t : ℕ) → IsBestAttained values alive IsHop start 0 v t None
  nothing_within_none v t = λ x h. let less : length h.0 < 0 = h.1 in absurd (omega (arith, less))

  -- the one list of fewer than one hop has the start value
  pub within_one_starts : (v t x : ℕ) → IsAttainedWithin values alive IsHop start 1 v t x → start v t ≡ Some x
  within_one_starts v t x h = by h.0 h.1 h.2
    where
      by : (hops : List Hop) → length hops < 1 → Attained hops v t x → start v t ≡ Some x
      by [] short attains = attains
      by (hop ∷ hops) short attains = absurd (omega (arith, short))

  pub start_within_one : (v t : ℕ) → IsBestAttained values alive IsHop start 1 v t (start v t)
  start_within_one v t = by (start v t) refl
    where
      by : (o : Option ℕ) → start v t ≡ o → IsBestAttained values alive IsHop start 1 v t o
      by None is = λ x h. none-some x (subst (λ o. o ≡ Some x) is (within_one_starts v t x h))
      by (Some b) is = (
        ([], omega arith, is),
        λ y h. subst (AsGood b) (same_Some b y (subst (λ o. o ≡ Some y) is (within_one_starts v t y h))) (lawful.itself b),
      )

  -- what shorter lists attain, longer ones attain
  pub attained_longer : (j k v t x : ℕ) → j ≤ k → IsAttainedWithin values alive IsHop start j v t x → IsAttainedWithin values alive IsHop start k v t x
  attained_longer j k v t x le h = let short : length h.0 < j = h.1 in (h.0, omega (arith, le, short), h.2)

  -- so the best value only improves
  pub more_is_as_good : (j k v t x : ℕ) (o : Option ℕ) → j ≤ k → IsBestAttained values alive IsHop start j v t (Some x) → IsBestAttained values alive IsHop start k v t o → (y : ℕ) × (o ≡ Some y) × IsTrue (values.good y x)
  more_is_as_good j k v t x o le less more = IsBest-at AsGood (Within k v t) o x (attained_longer j k v t x le less.0) more

  -- one more hop
  module _ (best : ℕ → ℕ → Option ℕ) where
    abbrev OneMore : (v t x : ℕ) → Type 0
    OneMore v t x = IsOneMore values alive IsHop best v t x

    pub one_more_is_attained : (k : ℕ) → ((v t : ℕ) → IsBestAttained values alive IsHop start k v t (best v t)) → (v t x : ℕ) → IsOneMore values alive IsHop best v t x → IsAttainedWithin values alive IsHop start (suc k) v t x
    one_more_is_attained k are v t x (inl is) = attained_longer k (suc k) v t x (omega arith) (IsBest-is AsGood (Within k v t) (best v t) x is (are v t))
    one_more_is_attained k are v t x (inr h) =
        let hop : Hop = h.0 in
        let y : ℕ = h.4.0 in
        let before : Within k hop.from hop.depart y = IsBest-is AsGood (Within k hop.from hop.depart) (best hop.from hop.depart) y h.4.1 (are hop.from hop.depart) in
        let short : length before.0 < k = before.1 in
        (hop ∷ before.0, omega (arith, short), (h.1, h.2, h.3, (y, before.2, h.4.2)))

    pub attained_has_one_more : (k : ℕ) → 1 ≤ k → ((v t : ℕ) → IsBestAttained values alive IsHop start k v t (best v t)) → (v t x : ℕ) → IsAttainedWithin values alive IsHop start (suc k) v t x → (y : ℕ) × IsOneMore values alive IsHop best v t y × IsTrue (values.good y x)
    attained_has_one_more k some are v t x h = by h.0 h.1 h.2
      where
        by : (hops : List Hop) → length hops < suc k → Attained hops v t x → (y : ℕ) × OneMore v t y × AsGood y x
        by [] short attains =
            let found = IsBest-at AsGood (Within k v t) (best v t) x ([], omega (arith, some), attains) (are v t) in
            (found.0, inl found.1, found.2)
        by (hop ∷ hops) short attains =
            let y : ℕ = attains.3.0 in
            let found = IsBest-at AsGood (Within k hop.from hop.depart) (best hop.from hop.depart) y (hops, omega (arith, short), attains.3.1) (are hop.from hop.depart) in (
              values.extend found.0 hop.depart hop.time hop.cost,
              inr (hop, attains.0, attains.1, attains.2, (found.0, found.1, refl)),
              subst (AsGood (values.extend found.0 hop.depart hop.time hop.cost)) attains.3.2 (lawful.rises found.0 y hop.depart hop.time hop.cost found.2),
            )

    -- The last hop: the best of one more hop is the best of the lists of one hop more.
    pub last_hop : (k : ℕ) → 1 ≤ k → ((v t : ℕ) → IsBestAttained values alive IsHop start k v t (best v t)) → (v t : ℕ) (o : Option ℕ) → IsBest (λ x y. IsTrue (values.good x y)) (IsOneMore values alive IsHop best v t) o → IsBestAttained values alive IsHop start (suc k) v t o
    last_hop k some are v t o h =
        IsBest-other AsGood (Within (suc k) v t) (OneMore v t) o lawful.through (one_more_is_attained k are v t) (attained_has_one_more k some are v t) h

    -- and the other way round
    pub last_hop_back : (k : ℕ) → 1 ≤ k → ((v t : ℕ) → IsBestAttained values alive IsHop start k v t (best v t)) → (v t : ℕ) (o : Option ℕ) → IsBestAttained values alive IsHop start (suc k) v t o → IsBest (λ x y. IsTrue (values.good x y)) (IsOneMore values alive IsHop best v t) o
    last_hop_back k some are v t o h =
        IsBest-part AsGood (Within (suc k) v t) (OneMore v t) o lawful.one (one_more_is_attained k are v t) (attained_has_one_more k some are v t) h

  -- Settled: values that are the best within k hops and within one more.
  module _ (best : ℕ → ℕ → Option ℕ) (k : ℕ) (are : (v t : ℕ) → IsBestAttained values alive IsHop start k v t (best v t)) (stay : (v t : ℕ) → IsBestAttained values alive IsHop start (suc k) v t (best v t)) where
    -- each list has a best value as good as its own
    pub settled_reaches : (hops : List Hop) (v t x : ℕ) → Attains values alive IsHop start hops v t x → (y : ℕ) × (best v t ≡ Some y) × IsTrue (values.good y x)
    settled_reaches [] v t x attains = IsBest-at AsGood (Within (suc k) v t) (best v t) x ([], omega arith, attains) (stay v t)
    settled_reaches (hop ∷ hops) v t x attains =
        let y : ℕ = attains.3.0 in
        let before = settled_reaches hops hop.from hop.depart y attains.3.1 in
        let z : ℕ = before.0 in
        let list : Within k hop.from hop.depart z = IsBest-is AsGood (Within k hop.from hop.depart) (best hop.from hop.depart) z before.1 (are hop.from hop.depart) in
        let short : length list.0 < k = list.1 in
        let one : Within (suc k) v t (values.extend z hop.depart hop.time hop.cost) = (hop ∷ list.0, omega (arith, short), (attains.0, attains.1, attains.2, (z, list.2, refl))) in
        let found = IsBest-at AsGood (Within (suc k) v t) (best v t) (values.extend z hop.depart hop.time hop.cost) one (stay v t) in
        let rises : AsGood (values.extend z hop.depart hop.time hop.cost) x = subst (AsGood (values.extend z hop.depart hop.time hop.cost)) attains.3.2 (lawful.rises z y hop.depart hop.time hop.cost before.2) in
        (found.0, found.1, lawful.through found.0 (values.extend z hop.depart hop.time hop.cost) x found.2 rises)

    -- and a list of its own
    pub settled_has : (v t x : ℕ) (hops : List Hop) → Attains values alive IsHop start hops v t x → (y : ℕ) × IsAttainedWithin values alive IsHop start k v t y × IsTrue (values.good y x)
    settled_has v t x hops attains =
        let found = settled_reaches hops v t x attains in
        (found.0, IsBest-is AsGood (Within k v t) (best v t) found.0 found.1 (are v t), found.2)

    -- so they are the best of all lists
    pub settled : (v t : ℕ) → IsBestOfLists values alive IsHop start v t (best v t)
    settled v t =
        IsBest-other AsGood (λ x. (hops : List Hop) × Attained hops v t x) (Within k v t) (best v t)
        lawful.through (λ x h. (h.0, h.2)) (λ x h. settled_has v t x h.0 h.1) (are v t)

    -- and within any more hops
    pub settled_within : (j : ℕ) → k ≤ j → (v t : ℕ) → IsBestAttained values alive IsHop start j v t (best v t)
    settled_within j le v t =
        IsBest-other AsGood (Within j v t) (Within k v t) (best v t)
        lawful.through (λ x h. attained_longer k j v t x le h) (λ x h. settled_has v t x h.0 h.2) (are v t)
