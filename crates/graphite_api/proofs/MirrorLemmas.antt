-- The mirror of time: a journey is the mirrored journey there, and a latest departure is an earliest arrival there.
use Rattle.std.proofs.Common.{◌≡◌, refl, sym, ap, subst, ◌∙◌, ℕ, ◌<◌, Bool, IsTrue, List, [], ◌∷◌, ◌++◌, length, map, Option, Some, None, option_map, arith}
use Rattle.std.proofs.lemmas.List.{length-reverse, length-map}
use Rattle.graphite_time.specs.Mirror.{mirrored}
use Rattle.graphite_api.specs.declared.kind.Kind.TheVariants.{Latest}
use Rattle.graphite_api.specs.declared.path_query.PathQuery.{PathQuery}
use Rattle.graphite_api.specs.Best.{IsBest, IsLeast, IsGreatest}
use Rattle.graphite_api.specs.Hop.{Hop, arrival, Waits}
use Rattle.graphite_api.specs.Journey.{IsJourney, IsAskedFor, IsAsGood, journey_value, first_departure, last_arrival, IsValueWithin, IsBestWithin, IsBestOverAll}
use Rattle.graphite_api.specs.Mirror.{mirrored_hop, mirrored_hops, mirrored_query, AreMirrored}
use Rattle.graphite_api.proofs.WaitLemmas.{waits-first, waits-last}
use Rattle.graphite_api.proofs.JourneyLemmas.{reverse-cons, journey-more, last_arrival-more}

-- the mirror of the mirror
pub mirrored-twice : (h t : ℕ) → t < h → mirrored h (mirrored h t) ≡ t
mirrored-twice h t below = omega (arith, below)

pub mirrored-below : (h t : ℕ) → t < h → mirrored h t < h
mirrored-below h t below = omega (arith, below)

-- the first hop of a journey is the last one in the mirror
pub mirrored-cons : (h : ℕ) (hop : Hop) (hops : List Hop) → mirrored_hops h (hop ∷ hops) ≡ mirrored_hops h hops ++ mirrored_hop h hop ∷ []
mirrored-cons h hop hops = reverse-cons (mirrored_hop h hop) (map (mirrored_hop h) hops)

-- the mirror has the mirror's lives and hops
pub mirrored-back : (h : ℕ) (alive alive' : ℕ → ℕ → Bool) (IsHop IsHop' : Hop → Type 0) → AreMirrored h alive alive' IsHop IsHop' → AreMirrored h alive' alive IsHop' IsHop
mirrored-back h alive alive' IsHop IsHop' mirrors = record {
  below = mirrors.below';
  below' = mirrors.below;
  lives = λ v t below. ap (alive v) (sym (mirrored-twice h t below)) ∙ sym (mirrors.lives v (mirrored h t) (mirrored-below h t below));
  arrives = mirrors.arrives';
  arrives' = mirrors.arrives;
  hops = mirrors.hops';
  hops' = mirrors.hops;
}

-- the last arrival in the mirror is the first departure
last_arrival-mirrored : (h at : ℕ) (hops : List Hop) → ((hop : Hop) (rest : List Hop) → hops ≡ hop ∷ rest → arrival hop < h) → last_arrival (mirrored h at) (mirrored_hops h hops) ≡ mirrored h (first_departure hops at)
last_arrival-mirrored h at [] arrives = refl
last_arrival-mirrored h at (hop ∷ hops) arrives =
    let below = arrives hop hops refl in
    let is : arrival (mirrored_hop h hop) ≡ mirrored h hop.depart = omega (arith, below) in
    ap (last_arrival (mirrored h at)) (mirrored-cons h hop hops) ∙ last_arrival-more (mirrored h at) (mirrored_hops h hops) (mirrored_hop h hop) ∙ is

module _ (h : ℕ) (alive alive' : ℕ → ℕ → Bool) (IsHop IsHop' : Hop → Type 0) (mirrors : AreMirrored h alive alive' IsHop IsHop') where
  -- waiting, in the mirror
  pub waits-mirrored : (v p q : ℕ) → Waits alive v p q → Waits alive' v (mirrored h q) (mirrored h p)
  waits-mirrored v p q waits =
      let order = waits.order in
      let last = mirrors.below v q (waits-last alive v p q waits) in
      record {
        order = omega (arith, order);
        lives = λ t low high.
            let below : t < h = omega (arith, high, order, last) in
            subst (λ (b : Bool). IsTrue b) (sym (mirrors.lives v t below)) (waits.lives (mirrored h t) (omega (arith, high, order, last)) (omega (arith, low, last)));
      }

  -- a journey, in the mirror
  pub journey-mirrored : (v t : ℕ) (hops : List Hop) (s q : ℕ) → IsJourney alive IsHop v t hops s q → IsJourney alive' IsHop' s (mirrored h q) (mirrored_hops h hops) v (mirrored h t)
  journey-mirrored v t [] s q leads = (sym leads.0, subst (λ w. Waits alive' w (mirrored h q) (mirrored h t)) (sym leads.0) (waits-mirrored s t q leads.1))
  journey-mirrored v t (hop ∷ hops) s q leads =
      let below = mirrors.arrives hop leads.0 in
      let is : mirrored h hop.depart ≡ arrival (mirrored_hop h hop) = omega (arith, below) in
      subst (λ hops. IsJourney alive' IsHop' s (mirrored h q) hops v (mirrored h t)) (sym (mirrored-cons h hop hops))
      (journey-more alive' IsHop' s (mirrored h q) (mirrored_hops h hops) (mirrored_hop h hop) v (mirrored h t)
      (journey-mirrored hop.to (arrival hop) hops s q leads.3)
      (mirrors.hops hop leads.0) leads.1
      (subst (λ w. Waits alive' v w (mirrored h t)) is (waits-mirrored v t hop.depart leads.2)))

  -- it is below h at both of its ends
  pub journey-below : (v t : ℕ) (hops : List Hop) (s q : ℕ) → IsJourney alive IsHop v t hops s q → (t < h) × (q < h)
  journey-below v t [] s q leads = (mirrors.below s t (waits-first alive s t q leads.1), mirrors.below s q (waits-last alive s t q leads.1))
  journey-below v t (hop ∷ hops) s q leads =
      (mirrors.below v t (waits-first alive v t hop.depart leads.2), (journey-below hop.to (arrival hop) hops s q leads.3).1)

  -- and its first hop arrives below h
  first-below : (v t : ℕ) (hops : List Hop) (s q : ℕ) → IsJourney alive IsHop v t hops s q → (hop : Hop) (rest : List Hop) → hops ≡ hop ∷ rest → arrival hop < h
  first-below v t hops s q leads hop rest is = mirrors.arrives hop (subst (λ hops. IsJourney alive IsHop v t hops s q) is leads).0

  first_departure-below : (v t : ℕ) (hops : List Hop) (s q : ℕ) → IsJourney alive IsHop v t hops s q → first_departure hops q < h
  first_departure-below v t [] s q leads = (journey-below v t [] s q leads).1
  first_departure-below v t (hop ∷ hops) s q leads = let below = mirrors.arrives hop leads.0 in omega (arith, below)

  last_arrival-below : (v t : ℕ) (hops : List Hop) (s q : ℕ) → IsJourney alive IsHop v t hops s q → last_arrival t hops < h
  last_arrival-below v t [] s q leads = (journey-below v t [] s q leads).0
  last_arrival-below v t (hop ∷ hops) s q leads = last_arrival-below hop.to (arrival hop) hops s q leads.3

pub length-mirrored : (h : ℕ) (hops : List Hop) → length (mirrored_hops h hops) ≡ length hops
length-mirrored h hops = length-reverse (map (mirrored_hop h) hops) ∙ length-map hops (mirrored_hop h)

-- the first departure of a mirrored journey is the mirror of the last arrival
first_departure-mirrored : (h at : ℕ) (hops : List Hop) → first_departure (mirrored_hops h hops) (mirrored h at) ≡ mirrored h (last_arrival at hops)
first_departure-mirrored h at [] = refl
first_departure-mirrored h at (hop ∷ hops) = ap (λ hops. first_departure hops (mirrored h at)) (mirrored-cons h hop hops) ∙ later hop hops (mirrored h at) ∙ first_departure-mirrored h (arrival hop) hops
  where
    append : (first : Hop) (hops : List Hop) (at : ℕ) → first_departure (hops ++ first ∷ []) at ≡ first_departure hops first.depart
    append first [] at = refl
    append first (hop ∷ hops) at = refl

    later : (hop : Hop) (hops : List Hop) (at : ℕ) → first_departure (mirrored_hops h hops ++ mirrored_hop h hop ∷ []) at ≡ first_departure (mirrored_hops h hops) (mirrored h (arrival hop))
    later hop hops at = append (mirrored_hop h hop) (mirrored_hops h hops) at

-- the other way round: a journey of the mirror, mirrored
pub journey-here : (h : ℕ) (alive alive' : ℕ → ℕ → Bool) (IsHop IsHop' : Hop → Type 0) → AreMirrored h alive alive' IsHop IsHop' → (s p : ℕ) (hops : List Hop) (v r : ℕ) → IsJourney alive' IsHop' s p hops v r → IsJourney alive IsHop v (mirrored h r) (mirrored_hops h hops) s (mirrored h p)
journey-here h alive alive' IsHop IsHop' mirrors s p hops v r leads =
    journey-mirrored h alive' alive IsHop' IsHop (mirrored-back h alive alive' IsHop IsHop' mirrors) s p hops v r leads

module _ (h : ℕ) (alive alive' : ℕ → ℕ → Bool) (IsHop IsHop' : Hop → Type 0) (mirrors : AreMirrored h alive alive' IsHop IsHop') (query : PathQuery) (latest : query.kind ≡ Latest) where
  -- the value of a journey is the mirror of that of the mirrored journey
  value-mirrored : (k v t x : ℕ) → IsValueWithin alive IsHop query k v t x → IsValueWithin alive' IsHop' (mirrored_query h query) k v (mirrored h t) (mirrored h x) × (x < h)
  value-mirrored k v t x value =
      let leads = subst (λ kind. IsAskedFor alive IsHop kind query.vertex value.at value.hops v t) latest value.leads in
      let is = subst (λ kind. journey_value kind value.at value.hops ≡ x) latest value.is in
      let from = value.from in
      let until = value.until in
      let short = value.short in
      let end = (journey-below h alive alive' IsHop IsHop' mirrors v t value.hops query.vertex value.at leads).1 in
      let below = first_departure-below h alive alive' IsHop IsHop' mirrors v t value.hops query.vertex value.at leads in (
        record {
          at = mirrored h value.at;
          hops = mirrored_hops h value.hops;
          from = omega (arith, until);
          until = omega (arith, from, end);
          leads = journey-mirrored h alive alive' IsHop IsHop' mirrors v t value.hops query.vertex value.at leads;
          short = let same = length-mirrored h value.hops in omega (arith, same, short);
          is = last_arrival-mirrored h value.at value.hops (first-below h alive alive' IsHop IsHop' mirrors v t value.hops query.vertex value.at leads) ∙ ap (mirrored h) is;
        },
        omega (arith, is, below),
      )

  value-back : (k v t x : ℕ) → IsValueWithin alive' IsHop' (mirrored_query h query) k v t x → IsValueWithin alive IsHop query k v (mirrored h t) (mirrored h x) × (x < h)
  value-back k v t x value =
      let back = mirrored-back h alive alive' IsHop IsHop' mirrors in
      let leads = journey-mirrored h alive' alive IsHop' IsHop back query.vertex value.at value.hops v t value.leads in
      let from = value.from in
      let until = value.until in
      let short = value.short in
      let is = value.is in
      let below = last_arrival-below h alive' alive IsHop' IsHop back query.vertex value.at value.hops v t value.leads in (
        record {
          at = mirrored h value.at;
          hops = mirrored_hops h value.hops;
          from = omega (arith, until);
          until = omega (arith, from, until);
          leads = subst (λ kind. IsAskedFor alive IsHop kind query.vertex (mirrored h value.at) (mirrored_hops h value.hops) v (mirrored h t)) (sym latest) leads;
          short = let same = length-mirrored h value.hops in omega (arith, same, short);
          is = subst (λ kind. journey_value kind (mirrored h value.at) (mirrored_hops h value.hops) ≡ mirrored h x) (sym latest) (first_departure-mirrored h value.at value.hops ∙ ap (mirrored h) is);
        },
        omega (arith, is, below),
      )

  -- the same, for the instants below h
  value-here : (k v t x : ℕ) → t < h → IsValueWithin alive' IsHop' (mirrored_query h query) k v (mirrored h t) x → IsValueWithin alive IsHop query k v t (mirrored h x) × (x < h)
  value-here k v t x below value =
      let back = value-back k v (mirrored h t) x value in
      (subst (λ u. IsValueWithin alive IsHop query k v u (mirrored h x)) (mirrored-twice h t below) back.0, back.1)

  -- the least of some numbers is the mirror of the greatest of their mirrors
  greatest-mirrored : (P Q : ℕ → Type 0) (o : Option ℕ) → ((x : ℕ) → P x → Q (mirrored h x) × (x < h)) → ((x : ℕ) → Q x → P (mirrored h x) × (x < h)) → IsLeast Q o → IsGreatest P (option_map (mirrored h) o)
  greatest-mirrored P Q None to back best = λ x value. best (mirrored h x) (to x value).0
  greatest-mirrored P Q (Some b) to back best = (
    (back b best.0).0,
    λ y value.
        let there = to y value in
        let least = best.1 (mirrored h y) there.0 in
        let below = there.1 in
        omega (arith, least, below),
  )

  least-mirrored : (P Q : ℕ → Type 0) (o : Option ℕ) → ((x : ℕ) → P x → Q (mirrored h x) × (x < h)) → ((x : ℕ) → Q x → P (mirrored h x) × (x < h)) → IsGreatest P o → IsLeast Q (option_map (mirrored h) o)
  least-mirrored P Q None to back best = λ x value. best (mirrored h x) (back x value).0
  least-mirrored P Q (Some b) to back best = (
    (to b best.0).0,
    λ y value.
        let here = back y value in
        let greatest = best.1 (mirrored h y) here.0 in
        let below = here.1 in
        omega (arith, greatest, below),
  )

  -- the best of fewer than k hops
  pub latest-within : (k v t : ℕ) (o : Option ℕ) → t < h → IsBestWithin alive' IsHop' (mirrored_query h query) k v (mirrored h t) o → IsBestWithin alive IsHop query k v t (option_map (mirrored h) o)
  latest-within k v t o below best =
      subst (λ kind. IsBest (IsAsGood kind) (IsValueWithin alive IsHop query k v t) (option_map (mirrored h) o)) (sym latest)
      (greatest-mirrored (IsValueWithin alive IsHop query k v t) (IsValueWithin alive' IsHop' (mirrored_query h query) k v (mirrored h t)) o
      (value-mirrored k v t) (λ x. value-here k v t x below) best)

  pub earliest-within : (k v t : ℕ) (o : Option ℕ) → t < h → IsBestWithin alive IsHop query k v t o → IsBestWithin alive' IsHop' (mirrored_query h query) k v (mirrored h t) (option_map (mirrored h) o)
  earliest-within k v t o below best =
      least-mirrored (IsValueWithin alive IsHop query k v t) (IsValueWithin alive' IsHop' (mirrored_query h query) k v (mirrored h t)) o
      (value-mirrored k v t) (λ x. value-here k v t x below)
      (subst (λ kind. IsBest (IsAsGood kind) (IsValueWithin alive IsHop query k v t) o) latest best)

  -- the best of all
  abbrev AnyLatest : (v t x : ℕ) → Type 0
  AnyLatest v t x = (k : ℕ) × IsValueWithin alive IsHop query k v t x

  abbrev AnyEarliest : (v t x : ℕ) → Type 0
  AnyEarliest v t x = (k : ℕ) × IsValueWithin alive' IsHop' (mirrored_query h query) k v (mirrored h t) x

  any-mirrored : (v t x : ℕ) → AnyLatest v t x → AnyEarliest v t (mirrored h x) × (x < h)
  any-mirrored v t x value = let there = value-mirrored value.0 v t x value.1 in ((value.0, there.0), there.1)

  any-here : (v t x : ℕ) → t < h → AnyEarliest v t x → AnyLatest v t (mirrored h x) × (x < h)
  any-here v t x below value = let here = value-here value.0 v t x below value.1 in ((value.0, here.0), here.1)

  pub latest-over_all : (v t : ℕ) (o : Option ℕ) → t < h → IsBestOverAll alive' IsHop' (mirrored_query h query) v (mirrored h t) o → IsBestOverAll alive IsHop query v t (option_map (mirrored h) o)
  latest-over_all v t o below best =
      subst (λ kind. IsBest (IsAsGood kind) (AnyLatest v t) (option_map (mirrored h) o)) (sym latest)
      (greatest-mirrored (AnyLatest v t) (AnyEarliest v t) o (any-mirrored v t) (λ x. any-here v t x below) best)

  pub earliest-over_all : (v t : ℕ) (o : Option ℕ) → t < h → IsBestOverAll alive IsHop query v t o → IsBestOverAll alive' IsHop' (mirrored_query h query) v (mirrored h t) (option_map (mirrored h) o)
  earliest-over_all v t o below best =
      least-mirrored (AnyLatest v t) (AnyEarliest v t) o (any-mirrored v t) (λ x. any-here v t x below)
      (subst (λ kind. IsBest (IsAsGood kind) (AnyLatest v t) o) latest best)
