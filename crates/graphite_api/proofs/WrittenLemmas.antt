-- The written journey is one, and has the best value.
use Rattle.std.proofs.Common.{◌≡◌, ◌≢◌, refl, sym, ap, subst, ◌∙◌, ℕ, ◌<◌, ◌≤◌, Bool, List, [], ◌∷◌, ◌++◌, length, reverse, Some, arith, inl, inr, ◌⊎◌, ⊎_elim}
use Rattle.std.proofs.lemmas.List.{reverse-reverse}
use Rattle.std.proofs.lemmas.Option.{same_Some}
use Rattle.graphite_api.specs.declared.kind.Kind.{Kind}
use Rattle.graphite_api.specs.declared.kind.Kind.TheVariants.{Reach, Earliest, Cheapest, Fastest, Latest}
use Rattle.graphite_api.specs.declared.path_query.PathQuery.{PathQuery}
use Rattle.graphite_api.specs.Hop.{Hop, arrival}
use Rattle.graphite_api.specs.Journey.{IsJourney, IsAskedFor, IsAsGood, journey_value, IsValueWithin, IsBestOverAll}
use Rattle.graphite_api.specs.Written.{value_after, IsBefore, IsBeforeLate, IsBestWithoutHops, IsWrittenTo, IsWrittenFrom, AreWritten, IsPreferred, IsWritten}
use Rattle.graphite_api.proofs.BestLemmas.{IsBest-one}
use Rattle.graphite_api.proofs.JourneyLemmas.{reverse-cons, journey-more, journey-last, asked-journey, journey-asked, value-more, as_good-one}

-- of two hops that are before each other the edge and the departure are the same
before-both : (hop other : Hop) → IsBefore hop other → IsBefore other hop → (hop.edge ≡ other.edge) × (hop.depart ≡ other.depart)
before-both hop other (inl less) (inl more) = absurd (omega (arith, less, more))
before-both hop other (inl less) (inr same) = let is = same.0 in absurd (omega (arith, less, is))
before-both hop other (inr same) (inl more) = let is = same.0 in absurd (omega (arith, more, is))
before-both hop other (inr same) (inr back) = let low = same.1 in let high = back.1 in (same.0, omega (arith, low, high))

before_late-both : (hop other : Hop) → IsBeforeLate hop other → IsBeforeLate other hop → (hop.edge ≡ other.edge) × (hop.depart ≡ other.depart)
before_late-both hop other (inl less) (inl more) = absurd (omega (arith, less, more))
before_late-both hop other (inl less) (inr same) = let is = same.0 in absurd (omega (arith, less, is))
before_late-both hop other (inr same) (inl more) = let is = same.0 in absurd (omega (arith, more, is))
before_late-both hop other (inr same) (inr back) = let low = same.1 in let high = back.1 in (same.0, omega (arith, low, high))

-- of two instants that are not behind each other there is one alone
preferred-one : (kind : Kind) (p q : ℕ) → IsPreferred kind p q → IsPreferred kind q p → p ≡ q
preferred-one Reach p q first then = omega (arith, first, then)
preferred-one Earliest p q first then = omega (arith, first, then)
preferred-one Cheapest p q first then = omega (arith, first, then)
preferred-one Fastest p q first then = omega (arith, first, then)
preferred-one Latest p q first then = omega (arith, first, then)

module _ (alive : ℕ → ℕ → Bool) (IsHop : Hop → Type 0) (query : PathQuery) (Best : ℕ → ℕ → ℕ → Type 0) (hop_is_one : (hop other : Hop) → IsHop hop → IsHop other → hop.edge ≡ other.edge → hop.depart ≡ other.depart → hop ≡ other) where
  pub written_to-one : (hops others : List Hop) (v t : ℕ) → IsWrittenTo alive IsHop query Best hops v t → IsWrittenTo alive IsHop query Best others v t → hops ≡ others
  written_to-one [] [] v t written again = refl
  written_to-one [] (other ∷ others) v t written again = absurd (again.0 written)
  written_to-one (hop ∷ hops) [] v t written again = absurd (written.0 again)
  written_to-one (hop ∷ hops) (other ∷ others) v t written again =
      let same = before-both hop other (written.2 other again.1) (again.2 hop written.1) in
      let is = hop_is_one hop other written.1.hops again.1.hops same.0 same.1 in
      ap (λ hop. hop ∷ hops) is
      ∙ ap (λ hops. other ∷ hops)
      (written_to-one hops others other.from other.depart (subst (λ (hop : Hop). IsWrittenTo alive IsHop query Best hops hop.from hop.depart) is written.3) again.3)

  pub written_from-one : (hops others : List Hop) (v t : ℕ) → IsWrittenFrom alive IsHop query Best hops v t → IsWrittenFrom alive IsHop query Best others v t → hops ≡ others
  written_from-one [] [] v t written again = refl
  written_from-one [] (other ∷ others) v t written again = absurd (again.0 written)
  written_from-one (hop ∷ hops) [] v t written again = absurd (written.0 again)
  written_from-one (hop ∷ hops) (other ∷ others) v t written again =
      let same = before_late-both hop other (written.2 other again.1) (again.2 hop written.1) in
      let is = hop_is_one hop other written.1.hops again.1.hops same.0 same.1 in
      ap (λ hop. hop ∷ hops) is
      ∙ ap (λ hops. other ∷ hops)
      (written_from-one hops others other.to (arrival other) (subst (λ (hop : Hop). IsWrittenFrom alive IsHop query Best hops hop.to (arrival hop)) is written.3) again.3)

  reversed-one : (hops others : List Hop) (v t : ℕ) → IsWrittenTo alive IsHop query Best (reverse hops) v t → IsWrittenTo alive IsHop query Best (reverse others) v t → hops ≡ others
  reversed-one hops others v t written again =
      sym (reverse-reverse hops) ∙ ap reverse (written_to-one (reverse hops) (reverse others) v t written again) ∙ reverse-reverse others

  -- the hops of the written journey
  pub written-one : (kind : Kind) (hops others : List Hop) (v t : ℕ) → AreWritten alive IsHop query kind Best hops v t → AreWritten alive IsHop query kind Best others v t → hops ≡ others
  written-one Reach hops others v t written again = reversed-one hops others v t written again
  written-one Earliest hops others v t written again = reversed-one hops others v t written again
  written-one Cheapest hops others v t written again = reversed-one hops others v t written again
  written-one Fastest hops others v t written again = reversed-one hops others v t written again
  written-one Latest hops others v t written again = written_from-one hops others v t written again

  -- its instant and its hops
  pub journey-one : (at other_at : ℕ) (hops others : List Hop) (v t : ℕ) → IsWritten alive IsHop query Best at hops v t → IsWritten alive IsHop query Best other_at others v t → (at ≡ other_at) × (hops ≡ others)
  journey-one at other_at hops others v t written again =
      let same = written-one query.kind hops others v t written.hops_are again.hops_are in
      let leads = subst (λ hops. IsAskedFor alive IsHop query.kind query.vertex at hops v t) same written.leads in
      let leads_too = subst (λ hops. IsAskedFor alive IsHop query.kind query.vertex other_at hops v t) (sym same) again.leads in (
        preferred-one query.kind at other_at (written.preferred other_at again.from again.until leads_too) (again.preferred at written.from written.until leads),
        same,
      )

-- what a value becomes by one hop more
pub after-more : (kind : Kind) → kind ≢ Latest → (at : ℕ) (hops : List Hop) (hop : Hop) → journey_value kind at (hops ++ hop ∷ []) ≡ value_after kind (journey_value kind at hops) hop
after-more Reach other at hops hop = refl
after-more Earliest other at hops hop = value-more Earliest other at hops hop
after-more Cheapest other at hops hop = value-more Cheapest other at hops hop
after-more Fastest other at hops hop = refl
after-more Latest other at hops hop = absurd (other refl)

-- the preferred instant has the better value of journeys without hops
preferred-good : (kind : Kind) (p q : ℕ) → IsPreferred kind p q → IsAsGood kind (journey_value kind p []) (journey_value kind q [])
preferred-good Reach p q preferred = omega arith
preferred-good Earliest p q preferred = preferred
preferred-good Cheapest p q preferred = omega arith
preferred-good Fastest p q preferred = preferred
preferred-good Latest p q preferred = preferred

latest_or : (kind : Kind) → (kind ≡ Latest) ⊎ (kind ≢ Latest)
latest_or Reach = inr (λ e. cc)
latest_or Earliest = inr (λ e. cc)
latest_or Cheapest = inr (λ e. cc)
latest_or Fastest = inr (λ e. cc)
latest_or Latest = inl refl

module _ (alive : ℕ → ℕ → Bool) (IsHop : Hop → Type 0) (query : PathQuery) where
  abbrev BestOver : (v t x : ℕ) → Type 0
  BestOver v t x = IsBestOverAll alive IsHop query v t (Some x)

  pub best-one : (v t x y : ℕ) → IsBestOverAll alive IsHop query v t (Some x) → IsBestOverAll alive IsHop query v t (Some y) → x ≡ y
  best-one v t x y best again =
      same_Some x y (IsBest-one (IsAsGood query.kind) (λ x. (k : ℕ) × IsValueWithin alive IsHop query k v t x) (Some x) (Some y) (as_good-one query.kind) best again)

  written-reversed : (kind : Kind) → kind ≢ Latest → (hops : List Hop) (v t : ℕ) → AreWritten alive IsHop query kind BestOver hops v t → IsWrittenTo alive IsHop query BestOver (reverse hops) v t
  written-reversed Reach other hops v t written = written
  written-reversed Earliest other hops v t written = written
  written-reversed Cheapest other hops v t written = written
  written-reversed Fastest other hops v t written = written
  written-reversed Latest other hops v t written = absurd (other refl)

  written-latest : (kind : Kind) → kind ≡ Latest → (hops : List Hop) (v t : ℕ) → AreWritten alive IsHop query kind BestOver hops v t → IsWrittenFrom alive IsHop query BestOver hops v t
  written-latest kind latest hops v t written = subst (λ kind. AreWritten alive IsHop query kind BestOver hops v t) latest written

  module _ (at : ℕ) (from : query.from ≤ at) (until : at < query.until) where
    -- the preferred journey without hops has the best value, where one without hops has it
    standing-best : (v t : ℕ) → IsAskedFor alive IsHop query.kind query.vertex at [] v t → ((other : ℕ) → query.from ≤ other → other < query.until → IsAskedFor alive IsHop query.kind query.vertex other [] v t → IsPreferred query.kind at other) → IsBestWithoutHops alive IsHop query BestOver v t → BestOver v t (journey_value query.kind at [])
    standing-best v t leads preferred standing = by standing.2.hops standing.2.leads standing.2.short standing.2.is
      where
        here : IsValueWithin alive IsHop query 1 v t (journey_value query.kind at [])
        here = record { at = at; hops = []; from = from; until = until; leads = leads; short = omega arith; is = refl }

        by : (hops : List Hop) → IsAskedFor alive IsHop query.kind query.vertex standing.2.at hops v t → length hops < 1 → journey_value query.kind standing.2.at hops ≡ standing.0 → BestOver v t (journey_value query.kind at [])
        by [] stands short is =
            let good = preferred-good query.kind at standing.2.at (preferred standing.2.at standing.2.from standing.2.until stands) in
            let same = as_good-one query.kind standing.0 (journey_value query.kind at []) (standing.1.1 (journey_value query.kind at []) (1, here)) (subst (IsAsGood query.kind (journey_value query.kind at [])) is good) in
            subst (BestOver v t) same standing.1
        by (hop ∷ hops) stands short is = absurd (omega (arith, short))

    written_to-best : query.kind ≢ Latest → (hops : List Hop) (v t : ℕ) → IsJourney alive IsHop query.vertex at (reverse hops) v t → ((other : ℕ) → query.from ≤ other → other < query.until → IsJourney alive IsHop query.vertex other (reverse hops) v t → IsPreferred query.kind at other) → IsWrittenTo alive IsHop query BestOver hops v t → BestOver v t (journey_value query.kind at (reverse hops))
    written_to-best forward [] v t leads preferred written =
        standing-best v t (journey-asked alive IsHop query.kind forward query.vertex at [] v t leads)
        (λ other low high stands. preferred other low high (asked-journey alive IsHop query.kind forward query.vertex other [] v t stands)) written
    written_to-best forward (hop ∷ hops) v t leads preferred written =
        let last = journey-last alive IsHop query.vertex at (reverse hops) hop v t (subst (λ hops. IsJourney alive IsHop query.vertex at hops v t) (reverse-cons hop hops) leads) in
        let longer : (other : ℕ) → IsJourney alive IsHop query.vertex other (reverse hops) hop.from hop.depart → IsJourney alive IsHop query.vertex other (reverse (hop ∷ hops)) v t =
        λ other before. subst (λ hops. IsJourney alive IsHop query.vertex other hops v t) (sym (reverse-cons hop hops)) (journey-more alive IsHop query.vertex other (reverse hops) hop v t before last.1 last.2 last.3) in
        let best = written_to-best forward hops hop.from hop.depart last.0 (λ other low high before. preferred other low high (longer other before)) written.3 in
        let same = best-one hop.from hop.depart written.1.before (journey_value query.kind at (reverse hops)) written.1.best_before best in
        let is : value_after query.kind written.1.before hop ≡ journey_value query.kind at (reverse (hop ∷ hops)) =
        ap (λ x. value_after query.kind x hop) same ∙ sym (ap (journey_value query.kind at) (reverse-cons hop hops) ∙ after-more query.kind forward at (reverse hops) hop) in
        subst (BestOver v t) is written.1.gives

    written_from-best : query.kind ≡ Latest → (hops : List Hop) (v t : ℕ) → IsAskedFor alive IsHop query.kind query.vertex at hops v t → ((other : ℕ) → query.from ≤ other → other < query.until → IsAskedFor alive IsHop query.kind query.vertex other hops v t → IsPreferred query.kind at other) → IsWrittenFrom alive IsHop query BestOver hops v t → BestOver v t (journey_value query.kind at hops)
    written_from-best latest [] v t leads preferred written = standing-best v t leads preferred written
    written_from-best latest (hop ∷ hops) v t leads preferred written =
        subst (λ kind. BestOver v t (journey_value kind at (hop ∷ hops))) (sym latest) written.1.gives

  -- the written journey has the best value
  pub written-best : (at : ℕ) (hops : List Hop) (v t : ℕ) → IsWritten alive IsHop query (λ v t x. IsBestOverAll alive IsHop query v t (Some x)) at hops v t → IsBestOverAll alive IsHop query v t (Some (journey_value query.kind at hops))
  written-best at hops v t written =
      ⊎_elim (λ (latest : query.kind ≡ Latest).
      written_from-best at written.from written.until latest hops v t written.leads written.preferred (written-latest query.kind latest hops v t written.hops_are))
      (λ (forward : query.kind ≢ Latest).
      let back = reverse-reverse hops in
      let to : (other : ℕ) → IsJourney alive IsHop query.vertex other (reverse (reverse hops)) v t → IsAskedFor alive IsHop query.kind query.vertex other hops v t =
      λ other leads. journey-asked alive IsHop query.kind forward query.vertex other hops v t (subst (λ hops. IsJourney alive IsHop query.vertex other hops v t) back leads) in
      let leads = subst (λ hops. IsJourney alive IsHop query.vertex at hops v t) (sym back) (asked-journey alive IsHop query.kind forward query.vertex at hops v t written.leads) in
      subst (λ hops. BestOver v t (journey_value query.kind at hops)) back
      (written_to-best at written.from written.until forward (reverse hops) v t leads (λ other low high there. written.preferred other low high (to other there))
      (written-reversed query.kind forward hops v t written.hops_are)))
      (latest_or query.kind)
