-- The hops of a written journey exist wherever there is a best value: for all kinds but the latest, where a first of the
-- hops that can be last is found.
use Rattle.std.proofs.Common.{◌≡◌, ◌≢◌, refl, sym, ap, subst, ◌∙◌, ℕ, zero, suc, ◌<◌, ◌≤◌, Bool, List, [], ◌∷◌, ◌++◌, length, reverse, Option, None, Some, arith, inl, inr, ◌⊎◌, ⊎_elim}
use Rattle.std.proofs.lemmas.List.{reverse-reverse}
use Rattle.std.proofs.lemmas.Bool.{cases_eq}
use Rattle.graphite_api.specs.declared.kind.Kind.{Kind}
use Rattle.graphite_api.specs.declared.kind.Kind.TheVariants.{Reach, Earliest, Cheapest, Fastest, Latest}
use Rattle.graphite_api.specs.declared.path_query.PathQuery.{PathQuery}
use Rattle.graphite_api.specs.Hop.{Hop, arrival, Waits}
use Rattle.graphite_api.specs.Journey.{IsJourney, IsAsGood, journey_value, IsValueWithin, IsBestWithin, IsBestOverAll}
use Rattle.graphite_api.specs.Written.{value_after, CanEnd, IsBefore, IsBestWithoutHops, IsWrittenTo}
use Rattle.graphite_api.proofs.BestLemmas.{IsBest-at}
use Rattle.graphite_api.proofs.JourneyLemmas.{reverse-cons, journey-more, journey-last, asked-journey, journey-asked, as_good-one}
use Rattle.graphite_api.proofs.WrittenLemmas.{after-more, best-one}

-- a list is empty, or has a last element
last_or_none : {X : Type 0} (xs : List X) → (xs ≡ []) ⊎ ((rest : List X) × (x : X) × (xs ≡ rest ++ x ∷ []))
last_or_none {X} xs = by (reverse xs) refl
  where
    by : (back : List X) → reverse xs ≡ back → (xs ≡ []) ⊎ ((rest : List X) × (x : X) × (xs ≡ rest ++ x ∷ []))
    by [] e = inl (sym (reverse-reverse xs) ∙ ap reverse e)
    by (x ∷ back) e = inr (reverse back, x, sym (reverse-reverse xs) ∙ ap reverse e ∙ reverse-cons x back)

-- the better value stays the better by one hop more
after-rises : (kind : Kind) (x y : ℕ) (hop : Hop) → IsAsGood kind x y → IsAsGood kind (value_after kind x hop) (value_after kind y hop)
after-rises Reach x y hop good = omega arith
after-rises Earliest x y hop good = omega arith
after-rises Cheapest x y hop good = omega (arith, good)
after-rises Fastest x y hop good = good
after-rises Latest x y hop good = good

module _ (alive : ℕ → ℕ → Bool) (IsHop : Hop → Type 0) (query : PathQuery) (forward : query.kind ≢ Latest) where
  abbrev Best : (v t x : ℕ) → Type 0
  Best v t x = IsBestOverAll alive IsHop query v t (Some x)

  abbrev AnyValue : (v t x : ℕ) → Type 0
  AnyValue v t x = (k : ℕ) × IsValueWithin alive IsHop query k v t x

  abbrev Standing : (v t : ℕ) → Type 0
  Standing v t = IsBestWithoutHops alive IsHop query Best v t

  abbrev Ends : (v t : ℕ) → Hop → Type 0
  Ends v t hop = CanEnd alive IsHop query.kind Best v t hop

  -- a journey without hops
  value-here : (at v t : ℕ) → query.from ≤ at → at < query.until → IsJourney alive IsHop query.vertex at [] v t → IsValueWithin alive IsHop query 1 v t (journey_value query.kind at [])
  value-here at v t from until leads = record {
    at = at;
    hops = [];
    from = from;
    until = until;
    leads = journey-asked alive IsHop query.kind forward query.vertex at [] v t leads;
    short = omega arith;
    is = refl;
  }

  -- one hop more makes a value of a value
  value-more-hop : (hop : Hop) (v t y : ℕ) → AnyValue hop.from hop.depart y → IsHop hop → hop.to ≡ v → Waits alive v (arrival hop) t → AnyValue v t (value_after query.kind y hop)
  value-more-hop hop v t y before is to waits =
      let value = before.1 in
      let leads = asked-journey alive IsHop query.kind forward query.vertex value.at value.hops hop.from hop.depart value.leads in (
        suc (length (value.hops ++ hop ∷ [])),
        record {
          at = value.at;
          hops = value.hops ++ hop ∷ [];
          from = value.from;
          until = value.until;
          leads = journey-asked alive IsHop query.kind forward query.vertex value.at (value.hops ++ hop ∷ []) v t
              (journey-more alive IsHop query.vertex value.at value.hops hop v t leads is to waits);
          short = omega arith;
          is = after-more query.kind forward value.at value.hops hop ∙ ap (λ y. value_after query.kind y hop) value.is;
        },
      )

  module _ (best : ℕ → ℕ → Option ℕ) (are : (v t : ℕ) → IsBestOverAll alive IsHop query v t (best v t)) where
    -- where there is a value, there is a best one, which is as good
    best-at : (v t y : ℕ) → AnyValue v t y → (x : ℕ) × Best v t x × IsAsGood query.kind x y
    best-at v t y value =
        let found = IsBest-at (IsAsGood query.kind) (AnyValue v t) (best v t) y value (are v t) in
        (found.0, subst (IsBestOverAll alive IsHop query v t) found.1 (are v t), found.2)

    -- the last hop of a best journey can be the last one: the best value before it becomes the best value by it
    last-ends : (hop : Hop) (v t x y : ℕ) → Best v t x → AnyValue hop.from hop.depart y → value_after query.kind y hop ≡ x → IsHop hop → hop.to ≡ v → Waits alive v (arrival hop) t → Ends v t hop
    last-ends hop v t x y top value is hops to waits =
        let before = best-at hop.from hop.depart y value in
        let after : ℕ = value_after query.kind before.0 hop in
        let good : IsAsGood query.kind x after = top.1 after (value-more-hop hop v t before.0 before.1.0 hops to waits) in
        let back : IsAsGood query.kind after x = subst (IsAsGood query.kind after) is (after-rises query.kind before.0 y hop before.2) in
        record {
          hops = hops;
          to = to;
          waits = waits;
          before = before.0;
          best_before = before.1;
          gives = subst (Best v t) (as_good-one query.kind x after good back) top;
        }

    -- where no journey without hops has the best value, a hop can be the last one
    some-ends : (v t x : ℕ) → Best v t x → (Standing v t → ⊥) → (hop : Hop) × Ends v t hop
    some-ends v t x top none = by (last_or_none hops)
      where
        hops : List Hop
        hops = top.0.1.hops

        at : ℕ
        at = top.0.1.at

        leads : IsJourney alive IsHop query.vertex at hops v t
        leads = asked-journey alive IsHop query.kind forward query.vertex at hops v t top.0.1.leads

        by : (hops ≡ []) ⊎ ((rest : List Hop) × (hop : Hop) × (hops ≡ rest ++ hop ∷ [])) → (hop : Hop) × Ends v t hop
        by (inl empty) =
            let value = value-here at v t top.0.1.from top.0.1.until (subst (λ hops. IsJourney alive IsHop query.vertex at hops v t) empty leads) in
            absurd (none (x, top, subst (IsValueWithin alive IsHop query 1 v t) (ap (journey_value query.kind at) (sym empty) ∙ top.0.1.is) value))
        by (inr last) =
            let rest : List Hop = last.0 in
            let hop : Hop = last.1 in
            let parts = journey-last alive IsHop query.vertex at rest hop v t (subst (λ hops. IsJourney alive IsHop query.vertex at hops v t) last.2 leads) in
            let value : AnyValue hop.from hop.depart (journey_value query.kind at rest) = (
              suc (length rest),
              record {
                at = at;
                hops = rest;
                from = top.0.1.from;
                until = top.0.1.until;
                leads = journey-asked alive IsHop query.kind forward query.vertex at rest hop.from hop.depart parts.0;
                short = omega arith;
                is = refl;
              },
            ) in
            let is = sym (after-more query.kind forward at rest hop) ∙ ap (journey_value query.kind at) (sym last.2) ∙ top.0.1.is in
            (hop, last-ends hop v t x (journey_value query.kind at rest) top value is parts.1 parts.2 parts.3)

    -- whether a journey without hops has the best value is decided by the best of them
    pub standing_or_not : (start : ℕ → ℕ → Option ℕ) → ((v t : ℕ) → IsBestWithin alive IsHop query 1 v t (start v t)) → (v t : ℕ) → IsBestWithoutHops alive IsHop query Best v t ⊎ (IsBestWithoutHops alive IsHop query Best v t → ⊥)
    standing_or_not start starts v t = by (start v t) (best v t) (starts v t) (are v t)
      where
        by : (o p : Option ℕ) → IsBestWithin alive IsHop query 1 v t o → IsBestOverAll alive IsHop query v t p → Standing v t ⊎ (Standing v t → ⊥)
        by None p first top = inr (λ standing. first standing.0 standing.2)
        by (Some s) None first top = inr (λ standing. top s (1, first.0))
        by (Some s) (Some b) first top = ⊎_elim
            (λ (same : s ≡ b). inl (b, top, subst (IsValueWithin alive IsHop query 1 v t) same first.0))
            (λ (differ : s ≢ b). inr (λ standing.
            let x : ℕ = standing.0 in
            let is : x ≡ b = best-one alive IsHop query v t x b standing.1 top in
            let good : IsAsGood query.kind s x = first.1 x standing.2 in
            let back : IsAsGood query.kind x s = standing.1.1 s (1, first.0) in
            differ (as_good-one query.kind s x good back ∙ is)))
            (cases_eq s b)

    -- the hops of the written journey: of those that can be the last one there is a first, and each departs before it arrives
    module _ (takes_time : (hop : Hop) → IsHop hop → 1 ≤ hop.time) (stands : (v t : ℕ) → IsBestWithoutHops alive IsHop query Best v t ⊎ (IsBestWithoutHops alive IsHop query Best v t → ⊥)) (first : (v t : ℕ) → (hop : Hop) × CanEnd alive IsHop query.kind Best v t hop → (hop : Hop) × CanEnd alive IsHop query.kind Best v t hop × ((other : Hop) → CanEnd alive IsHop query.kind Best v t other → IsBefore hop other)) where
      written_before : (n v t x : ℕ) → t < n → Best v t x → (hops : List Hop) × IsWrittenTo alive IsHop query Best hops v t
      written_before zero v t x less top = absurd (omega (arith, less))
      written_before (suc n) v t x less top = ⊎_elim (λ (standing : Standing v t). ([], standing)) (λ (none : Standing v t → ⊥).
          let found = first v t (some-ends v t x top none) in
          let hop : Hop = found.0 in
          let ends : Ends v t hop = found.1 in
          let takes = takes_time hop ends.hops in
          let arrives : arrival hop ≤ t = ends.waits.order in
          let before = written_before n hop.from hop.depart ends.before (omega (arith, less, takes, arrives)) ends.best_before in
          (hop ∷ before.0, (none, ends, found.2, before.1)))
          (stands v t)

      pub written_exists : (v t x : ℕ) → IsBestOverAll alive IsHop query v t (Some x) → (hops : List Hop) × IsWrittenTo alive IsHop query Best hops v t
      written_exists v t x top = written_before (suc t) v t x (omega arith) top
