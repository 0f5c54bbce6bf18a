-- Crossing: the best value of the lists of hops, their last hop first, is the best value of the journeys.
use Rattle.std.proofs.Common.{◌≡◌, ◌≢◌, refl, sym, ap, subst, ◌∙◌, ℕ, suc, ◌<◌, ◌≤◌, Bool, IsTrue, List, [], ◌∷◌, length, reverse, Option, arith}
use Rattle.std.proofs.lemmas.List.{reverse-reverse, length-reverse}
use Rattle.graphite_api.specs.declared.kind.Kind.TheVariants.{Latest}
use Rattle.graphite_api.specs.declared.path_query.PathQuery.{PathQuery}
use Rattle.graphite_api.specs.Best.{IsBest}
use Rattle.graphite_api.specs.Hop.{Hop}
use Rattle.graphite_api.specs.Journey.{IsJourney, IsAsGood, journey_value, IsValueWithin, IsBestWithin, IsBestOverAll}
use Rattle.graphite_api.specs.KindValues.{values_of}
use Rattle.graphite_api.specs.Attained.{Attains, IsAttainedWithin, IsBestAttained, IsBestOfLists}
use Rattle.graphite_api.proofs.BestLemmas.{IsBest-other, IsBest-part, IsBest-at, IsBest-is, IsBest-order}
use Rattle.graphite_api.proofs.KindLemmas.{values_are_lawful}
use Rattle.graphite_api.proofs.JourneyLemmas.{reverse-cons, journey-more, journey-last, asked-journey, journey-asked, value-more, good-is, is-good, as_good-through, as_good-one}

-- a journey from a vertex, its hops in a list with the last one first, that starts in a window and has the value x
pub record IsReversed (alive : ℕ → ℕ → Bool) (IsHop : Hop → Type 0) (query : PathQuery) (hops : List Hop) (v t x : ℕ) : Type 0 where
  pub at : ℕ
  pub from : query.from ≤ at
  pub until : at < query.until
  pub leads : IsJourney alive IsHop query.vertex at (reverse hops) v t
  pub is : journey_value query.kind at (reverse hops) ≡ x

module _ (alive : ℕ → ℕ → Bool) (IsHop : Hop → Type 0) (query : PathQuery) (other : query.kind ≢ Latest) (start : ℕ → ℕ → Option ℕ) (starts : (v t : ℕ) → IsBestWithin alive IsHop query 1 v t (start v t)) where
  -- a start value is that of a journey without hops
  standing : (v t x : ℕ) → IsValueWithin alive IsHop query 1 v t x → IsReversed alive IsHop query [] v t x
  standing v t x value = by value.hops (asked-journey alive IsHop query.kind other query.vertex value.at value.hops v t value.leads) value.short value.is
    where
      by : (hops : List Hop) → IsJourney alive IsHop query.vertex value.at hops v t → length hops < 1 → journey_value query.kind value.at hops ≡ x → IsReversed alive IsHop query [] v t x
      by [] leads short is = record { at = value.at; from = value.from; until = value.until; leads = leads; is = is }
      by (hop ∷ hops) leads short is = absurd (omega (arith, short))

  -- a list with a value is a journey with that value
  pub attained-journey : (hops : List Hop) (v t x : ℕ) → Attains (values_of query.kind) alive IsHop start hops v t x → IsReversed alive IsHop query hops v t x
  attained-journey [] v t x attains = standing v t x (IsBest-is (IsAsGood query.kind) (IsValueWithin alive IsHop query 1 v t) (start v t) x attains (starts v t))
  attained-journey (hop ∷ hops) v t x attains =
      let before = attained-journey hops hop.from hop.depart attains.3.0 attains.3.1 in
      record {
        at = before.at;
        from = before.from;
        until = before.until;
        leads = subst (λ hops. IsJourney alive IsHop query.vertex before.at hops v t) (sym (reverse-cons hop hops))
            (journey-more alive IsHop query.vertex before.at (reverse hops) hop v t before.leads attains.0 attains.1 attains.2);
        is = ap (journey_value query.kind before.at) (reverse-cons hop hops)
            ∙ value-more query.kind other before.at (reverse hops) hop
            ∙ ap (λ y. (values_of query.kind).extend y hop.depart hop.time hop.cost) before.is
            ∙ attains.3.2;
      }

  -- for a journey there is a value of its list that is as good
  pub journey-attained : (hops : List Hop) (at v t : ℕ) → query.from ≤ at → at < query.until → IsJourney alive IsHop query.vertex at (reverse hops) v t → (x : ℕ) × Attains (values_of query.kind) alive IsHop start hops v t x × IsTrue ((values_of query.kind).good x (journey_value query.kind at (reverse hops)))
  journey-attained [] at v t from until leads =
      let value : IsValueWithin alive IsHop query 1 v t (journey_value query.kind at []) = record {
        at = at;
        hops = [];
        from = from;
        until = until;
        leads = journey-asked alive IsHop query.kind other query.vertex at [] v t leads;
        short = omega arith;
        is = refl;
      } in
      let best = IsBest-at (IsAsGood query.kind) (IsValueWithin alive IsHop query 1 v t) (start v t) (journey_value query.kind at []) value (starts v t) in
      (best.0, best.1, is-good query.kind other best.0 (journey_value query.kind at []) best.2)
  journey-attained (hop ∷ hops) at v t from until leads =
      let last = journey-last alive IsHop query.vertex at (reverse hops) hop v t (subst (λ hops. IsJourney alive IsHop query.vertex at hops v t) (reverse-cons hop hops) leads) in
      let before = journey-attained hops at hop.from hop.depart from until last.0 in
      let extend : ℕ → ℕ = λ y. (values_of query.kind).extend y hop.depart hop.time hop.cost in
      let is : extend (journey_value query.kind at (reverse hops)) ≡ journey_value query.kind at (reverse (hop ∷ hops)) =
      sym (ap (journey_value query.kind at) (reverse-cons hop hops) ∙ value-more query.kind other at (reverse hops) hop) in (
        extend before.0,
        (last.1, last.2, last.3, (before.0, before.1, refl)),
        subst (λ y. IsTrue ((values_of query.kind).good (extend before.0) y)) is
            ((values_are_lawful query.kind).rises before.0 (journey_value query.kind at (reverse hops)) hop.depart hop.time hop.cost before.2),
      )

  -- the values of the lists of fewer than k hops are values of journeys
  attained-value : (k v t x : ℕ) (hops : List Hop) → length hops < k → Attains (values_of query.kind) alive IsHop start hops v t x → IsValueWithin alive IsHop query k v t x
  attained-value k v t x hops short attains =
      let journey = attained-journey hops v t x attains in
      record {
        at = journey.at;
        hops = reverse hops;
        from = journey.from;
        until = journey.until;
        leads = journey-asked alive IsHop query.kind other query.vertex journey.at (reverse hops) v t journey.leads;
        short = let same = length-reverse hops in omega (arith, short, same);
        is = journey.is;
      }

  -- and for each value of a journey there is one of its list that is as good
  value-attained : (k v t y : ℕ) (value : IsValueWithin alive IsHop query k v t y) → (x : ℕ) × Attains (values_of query.kind) alive IsHop start (reverse value.hops) v t x × IsAsGood query.kind x y
  value-attained k v t y value =
      let back = reverse-reverse value.hops in
      let leads = asked-journey alive IsHop query.kind other query.vertex value.at value.hops v t value.leads in
      let found = journey-attained (reverse value.hops) value.at v t value.from value.until (subst (λ hops. IsJourney alive IsHop query.vertex value.at hops v t) (sym back) leads) in
      let good = good-is query.kind other found.0 (journey_value query.kind value.at (reverse (reverse value.hops))) found.2 in
      (found.0, found.1, subst (IsAsGood query.kind found.0) (ap (journey_value query.kind value.at) back ∙ value.is) good)

  are-within : (k v t x : ℕ) → IsAttainedWithin (values_of query.kind) alive IsHop start k v t x → IsValueWithin alive IsHop query k v t x
  are-within k v t x attained = attained-value k v t x attained.0 attained.1 attained.2

  reach-within : (k v t y : ℕ) → IsValueWithin alive IsHop query k v t y → (x : ℕ) × IsAttainedWithin (values_of query.kind) alive IsHop start k v t x × IsAsGood query.kind x y
  reach-within k v t y value =
      let found = value-attained k v t y value in
      let same = length-reverse value.hops in
      let short = value.short in
      (found.0, (reverse value.hops, omega (arith, short, same), found.1), found.2)

  -- the values of all lists, and of all journeys
  abbrev AnyList : (v t x : ℕ) → Type 0
  AnyList v t x = (hops : List Hop) × Attains (values_of query.kind) alive IsHop start hops v t x

  abbrev AnyJourney : (v t x : ℕ) → Type 0
  AnyJourney v t x = (k : ℕ) × IsValueWithin alive IsHop query k v t x

  are-any : (v t x : ℕ) → AnyList v t x → AnyJourney v t x
  are-any v t x attained = (suc (length attained.0), attained-value (suc (length attained.0)) v t x attained.0 (omega arith) attained.1)

  reach-any : (v t y : ℕ) → AnyJourney v t y → (x : ℕ) × AnyList v t x × IsAsGood query.kind x y
  reach-any v t y value =
      let found = value-attained value.0 v t y value.1 in
      (found.0, (reverse value.1.hops, found.1), found.2)

  -- the values of lists as the values of journeys are compared, and the other way round
  to_journeys : (P Q : ℕ → Type 0) (o : Option ℕ) → ((x : ℕ) → Q x → P x) → ((y : ℕ) → P y → (x : ℕ) × Q x × IsAsGood query.kind x y) → IsBest (λ x y. IsTrue ((values_of query.kind).good x y)) Q o → IsBest (IsAsGood query.kind) P o
  to_journeys P Q o are reach best =
      IsBest-other (IsAsGood query.kind) P Q o (as_good-through query.kind) are reach
      (IsBest-order (λ x y. IsTrue ((values_of query.kind).good x y)) (IsAsGood query.kind) Q o (good-is query.kind other) best)

  to_lists : (P Q : ℕ → Type 0) (o : Option ℕ) → ((x : ℕ) → Q x → P x) → ((y : ℕ) → P y → (x : ℕ) × Q x × IsAsGood query.kind x y) → IsBest (IsAsGood query.kind) P o → IsBest (λ x y. IsTrue ((values_of query.kind).good x y)) Q o
  to_lists P Q o are reach best =
      IsBest-order (IsAsGood query.kind) (λ x y. IsTrue ((values_of query.kind).good x y)) Q o (is-good query.kind other)
      (IsBest-part (IsAsGood query.kind) P Q o (as_good-one query.kind) are reach best)

  -- the best of fewer than k hops, and the best of all
  pub attained-within : (k v t : ℕ) (o : Option ℕ) → IsBestAttained (values_of query.kind) alive IsHop start k v t o → IsBestWithin alive IsHop query k v t o
  attained-within k v t o best =
      to_journeys (IsValueWithin alive IsHop query k v t) (IsAttainedWithin (values_of query.kind) alive IsHop start k v t) o (are-within k v t) (reach-within k v t) best

  pub within-attained : (k v t : ℕ) (o : Option ℕ) → IsBestWithin alive IsHop query k v t o → IsBestAttained (values_of query.kind) alive IsHop start k v t o
  within-attained k v t o best =
      to_lists (IsValueWithin alive IsHop query k v t) (IsAttainedWithin (values_of query.kind) alive IsHop start k v t) o (are-within k v t) (reach-within k v t) best

  pub lists-over_all : (v t : ℕ) (o : Option ℕ) → IsBestOfLists (values_of query.kind) alive IsHop start v t o → IsBestOverAll alive IsHop query v t o
  lists-over_all v t o best = to_journeys (AnyJourney v t) (AnyList v t) o (are-any v t) (reach-any v t) best

  pub over_all-lists : (v t : ℕ) (o : Option ℕ) → IsBestOverAll alive IsHop query v t o → IsBestOfLists (values_of query.kind) alive IsHop start v t o
  over_all-lists v t o best = to_lists (AnyJourney v t) (AnyList v t) o (are-any v t) (reach-any v t) best
