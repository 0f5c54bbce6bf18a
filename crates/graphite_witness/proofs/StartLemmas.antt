-- Hops that are written have an instant at the query's vertex to go with them: the preferred one of all that do.
use Rattle.std.proofs.Common.{◌≡◌, ◌≢◌, refl, sym, subst, ℕ, ◌<◌, ◌≤◌, Bool, List, [], ◌∷◌, reverse}
use Rattle.std.proofs.lemmas.List.{reverse-reverse}
use Rattle.graphite_api.specs.declared.kind.Kind.{Kind}
use Rattle.graphite_api.specs.declared.kind.Kind.TheVariants.{Reach, Earliest, Cheapest, Fastest, Latest}
use Rattle.graphite_api.specs.declared.path_query.PathQuery.{PathQuery}
use Rattle.graphite_api.specs.Hop.{Hop, arrival}
use Rattle.graphite_api.specs.Journey.{IsJourney, IsAskedFor, IsValueWithin}
use Rattle.graphite_api.specs.Written.{IsWrittenTo, IsWrittenFrom, AreWritten, IsPreferred, IsWritten}
use Rattle.graphite_api.proofs.JourneyLemmas.{reverse-cons, journey-more, journey-last, asked-journey, journey-asked}

-- of the instants of the window from which, or to which, these hops lead, it is the preferred one
pub record IsPreferredStart (alive : ℕ → ℕ → Bool) (IsHop : Hop → Type 0) (query : PathQuery) (at : ℕ) (hops : List Hop) (v t : ℕ) : Type 0 where
  pub from : query.from ≤ at
  pub until : at < query.until
  pub leads : IsAskedFor alive IsHop query.kind query.vertex at hops v t
  pub preferred : (other : ℕ) → query.from ≤ other → other < query.until → IsAskedFor alive IsHop query.kind query.vertex other hops v t → IsPreferred query.kind at other

module _ (alive : ℕ → ℕ → Bool) (IsHop : Hop → Type 0) (query : PathQuery) (Best : ℕ → ℕ → ℕ → Type 0) (standing : (v t x : ℕ) → IsValueWithin alive IsHop query 1 v t x → (at : ℕ) × IsPreferredStart alive IsHop query at [] v t) where
  -- one hop more at the end changes no start
  module _ (forward : query.kind ≢ Latest) where
    abbrev Leads : (at : ℕ) → List Hop → (v t : ℕ) → Type 0
    Leads at hops v t = IsAskedFor alive IsHop query.kind query.vertex at hops v t

    leads-more : (at : ℕ) (hops : List Hop) (hop : Hop) (v t : ℕ) → IsJourney alive IsHop query.vertex at (reverse (hop ∷ hops)) v t → Leads at (reverse hops) hop.from hop.depart
    leads-more at hops hop v t leads =
        let last = journey-last alive IsHop query.vertex at (reverse hops) hop v t (subst (λ hops. IsJourney alive IsHop query.vertex at hops v t) (reverse-cons hop hops) leads) in
        journey-asked alive IsHop query.kind forward query.vertex at (reverse hops) hop.from hop.depart last.0

    start-to : (back : List Hop) (v t : ℕ) → IsWrittenTo alive IsHop query Best back v t → (at : ℕ) × IsPreferredStart alive IsHop query at (reverse back) v t
    start-to [] v t written = standing v t written.0 written.2
    start-to (hop ∷ back) v t written =
        let before = start-to back hop.from hop.depart written.3 in
        let at : ℕ = before.0 in
        let leads = asked-journey alive IsHop query.kind forward query.vertex at (reverse back) hop.from hop.depart before.1.leads in
        let more = journey-more alive IsHop query.vertex at (reverse back) hop v t leads written.1.hops written.1.to written.1.waits in (
          at,
          record {
            from = before.1.from;
            until = before.1.until;
            leads = journey-asked alive IsHop query.kind forward query.vertex at (reverse (hop ∷ back)) v t
                (subst (λ hops. IsJourney alive IsHop query.vertex at hops v t) (sym (reverse-cons hop back)) more);
            preferred = λ other low high there. before.1.preferred other low high
                (leads-more other back hop v t (asked-journey alive IsHop query.kind forward query.vertex other (reverse (hop ∷ back)) v t there));
          },
        )

    start-forward : (hops : List Hop) (v t : ℕ) → IsWrittenTo alive IsHop query Best (reverse hops) v t → (at : ℕ) × IsPreferredStart alive IsHop query at hops v t
    start-forward hops v t written =
        subst (λ hops. (at : ℕ) × IsPreferredStart alive IsHop query at hops v t) (reverse-reverse hops) (start-to (reverse hops) v t written)

  -- nor does one hop more at the front of latest hops
  module _ (latest : query.kind ≡ Latest) where
    asked-latest : (at : ℕ) (hops : List Hop) (v t : ℕ) → IsAskedFor alive IsHop query.kind query.vertex at hops v t → IsJourney alive IsHop v t hops query.vertex at
    asked-latest at hops v t leads = subst (λ kind. IsAskedFor alive IsHop kind query.vertex at hops v t) latest leads

    latest-asked : (at : ℕ) (hops : List Hop) (v t : ℕ) → IsJourney alive IsHop v t hops query.vertex at → IsAskedFor alive IsHop query.kind query.vertex at hops v t
    latest-asked at hops v t leads = subst (λ kind. IsAskedFor alive IsHop kind query.vertex at hops v t) (sym latest) leads

    start-from : (hops : List Hop) (v t : ℕ) → IsWrittenFrom alive IsHop query Best hops v t → (at : ℕ) × IsPreferredStart alive IsHop query at hops v t
    start-from [] v t written = standing v t written.0 written.2
    start-from (hop ∷ hops) v t written =
        let after = start-from hops hop.to (arrival hop) written.3 in
        let at : ℕ = after.0 in (
          at,
          record {
            from = after.1.from;
            until = after.1.until;
            leads = latest-asked at (hop ∷ hops) v t
                (written.1.hops, written.1.from, written.1.waits, asked-latest at hops hop.to (arrival hop) after.1.leads);
            preferred = λ other low high there. after.1.preferred other low high
                (latest-asked other hops hop.to (arrival hop) (asked-latest other (hop ∷ hops) v t there).3);
          },
        )

  start-of_written : (kind : Kind) → query.kind ≡ kind → (hops : List Hop) (v t : ℕ) → AreWritten alive IsHop query kind Best hops v t → (at : ℕ) × IsPreferredStart alive IsHop query at hops v t
  start-of_written Reach is hops v t written = start-forward (λ late. cc (is, late)) hops v t written
  start-of_written Earliest is hops v t written = start-forward (λ late. cc (is, late)) hops v t written
  start-of_written Cheapest is hops v t written = start-forward (λ late. cc (is, late)) hops v t written
  start-of_written Fastest is hops v t written = start-forward (λ late. cc (is, late)) hops v t written
  start-of_written Latest is hops v t written = start-from is hops v t written

  -- the written journey of hops that are written
  pub start-written : (hops : List Hop) (v t : ℕ) → AreWritten alive IsHop query query.kind Best hops v t → (at : ℕ) × IsWritten alive IsHop query Best at hops v t
  start-written hops v t written =
      let start = start-of_written query.kind refl hops v t written in (
        start.0,
        record { hops_are = written; from = start.1.from; until = start.1.until; leads = start.1.leads; preferred = start.1.preferred },
      )
