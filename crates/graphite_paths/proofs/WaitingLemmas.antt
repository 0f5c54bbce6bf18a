-- What the best values of journeys without hops are, and that a search can start with them.
use Rattle.std.proofs.Common.{◌≡◌, ◌≢◌, refl, sym, ◌∙◌, ap, subst, ℕ, ◌<◌, ◌≤◌, nat_le, Bool, IsTrue, List, [], ◌∷◌, length, Option, None, Some, arith}
use Rattle.std.proofs.lemmas.Bool.{le-leb, eq-eqb}
use Rattle.graphite_time.specs.declared.interval.Interval.{Interval}
use Rattle.graphite_api.specs.declared.kind.Kind.{Kind}
use Rattle.graphite_api.specs.declared.kind.Kind.TheVariants.{Reach, Earliest, Cheapest, Fastest, Latest}
use Rattle.graphite_api.specs.declared.path_query.PathQuery.{PathQuery}
use Rattle.graphite_api.specs.Hop.{Hop, Waits}
use Rattle.graphite_api.specs.Journey.{IsAskedFor, IsAsGood, journey_value, IsValueWithin, IsBestWithin}
use Rattle.graphite_api.specs.KindValues.{reach_values, earliest_values, fastest_values, saturating_values}
use Rattle.graphite_api.specs.Search.{IsJourneySearch}
use Rattle.graphite_api.specs.Table.{vertex_is_alive}
use Rattle.graphite_api.proofs.BestLemmas.{IsBest-at, IsBest-is}
use Rattle.graphite_api.proofs.KindLemmas.{reach_is_lawful, earliest_is_lawful, fastest_is_lawful, saturating_is_lawful}
use Rattle.graphite_api.proofs.JourneyLemmas.{asked-journey, journey-asked}
use Rattle.graphite_api.proofs.WaitLemmas.{waits-last, waits-through}
use Rattle.graphite_paths.specs.Forward.{IsOnward}

-- one waits at the query's vertex from an instant of the window on
pub record IsWaiting (alive : ℕ → ℕ → Bool) (query : PathQuery) (v t at : ℕ) : Type 0 where
  pub from : query.from ≤ at
  pub until : at < query.until
  pub here : query.vertex ≡ v
  pub waits : Waits alive v at t

no_hops : (hops : List Hop) → length hops < 1 → hops ≡ []
no_hops [] short = refl
no_hops (hop ∷ hops) short = absurd (omega (arith, short))

module _ (alive : ℕ → ℕ → Bool) (IsHop : Hop → Type 0) (query : PathQuery) (onward : IsOnward query.kind) (v t : ℕ) where
  -- a value of journeys of fewer hops than one is that of waiting from some instant on
  pub value-waiting : (x : ℕ) → IsValueWithin alive IsHop query 1 v t x → (at : ℕ) × IsWaiting alive query v t at × (journey_value query.kind at [] ≡ x)
  value-waiting x value =
      let none = no_hops value.hops value.short in
      let waits = asked-journey alive IsHop query.kind onward query.vertex value.at [] v t (subst (λ hops. IsAskedFor alive IsHop query.kind query.vertex value.at hops v t) none value.leads) in
      (value.at, record { from = value.from; until = value.until; here = waits.0; waits = waits.1 }, sym (ap (journey_value query.kind value.at) none) ∙ value.is)

  pub waiting-value : (at : ℕ) → IsWaiting alive query v t at → IsValueWithin alive IsHop query 1 v t (journey_value query.kind at [])
  waiting-value at waiting = record {
    at = at;
    hops = [];
    from = waiting.from;
    until = waiting.until;
    leads = journey-asked alive IsHop query.kind onward query.vertex at [] v t (waiting.here, waiting.waits);
    short = omega arith;
    is = refl;
  }

  -- there is none where none waits
  pub best-none : ((at : ℕ) → IsWaiting alive query v t at → ⊥) → IsBestWithin alive IsHop query 1 v t None
  best-none none x value = let waiting = value-waiting x value in none waiting.0 waiting.1

  -- the best is that of an instant from which one waits, and which is as good as any other one
  pub best-waiting : (at : ℕ) → IsWaiting alive query v t at → ((other : ℕ) → IsWaiting alive query v t other → IsAsGood query.kind (journey_value query.kind at []) (journey_value query.kind other [])) → IsBestWithin alive IsHop query 1 v t (Some (journey_value query.kind at []))
  best-waiting at waiting best = (
    waiting-value at waiting,
    λ x value. let other = value-waiting x value in subst (IsAsGood query.kind (journey_value query.kind at [])) other.2 (best other.0 other.1),
  )

-- such values as the start of a search
module _ (alive : ℕ → ℕ → Bool) (IsHop : Hop → Type 0) (query : PathQuery) (onward : IsOnward query.kind) (start : ℕ → ℕ → Option ℕ) (best : (v t : ℕ) → IsBestWithin alive IsHop query 1 v t (start v t)) where
  start-value : (v t x : ℕ) → start v t ≡ Some x → IsValueWithin alive IsHop query 1 v t x
  start-value v t x is =
      IsBest-is (IsAsGood query.kind) (IsValueWithin alive IsHop query 1 v t) (start v t) x is (best v t)

  -- a start value is that of waiting from an instant of the window on
  pub start-waits : (v t x : ℕ) → start v t ≡ Some x → (at : ℕ) × IsWaiting alive query v t at × (journey_value query.kind at [] ≡ x)
  start-waits v t x is = value-waiting alive IsHop query onward v t x (start-value v t x is)

  -- only where the vertex is alive
  pub start-alive : (v t x : ℕ) → start v t ≡ Some x → IsTrue (alive v t)
  start-alive v t x is =
      let waiting = start-waits v t x is in waits-last alive v waiting.0 t waiting.1.waits

  -- who waits on finds a value that is as good
  pub start-kept : (v p q x : ℕ) → Waits alive v p q → start v p ≡ Some x → (y : ℕ) × (start v q ≡ Some y) × IsAsGood query.kind y x
  start-kept v p q x waits is =
      let waiting = start-waits v p x is in
      let on : IsWaiting alive query v q waiting.0 = record {
        from = waiting.1.from;
        until = waiting.1.until;
        here = waiting.1.here;
        waits = waits-through alive v waiting.0 p q waiting.1.waits waits;
      } in
      IsBest-at (IsAsGood query.kind) (IsValueWithin alive IsHop query 1 v q) (start v q) x
      (subst (IsValueWithin alive IsHop query 1 v q) waiting.2 (waiting-value alive IsHop query onward v q waiting.0 on)) (best v q)

-- a search for each question, where hops take time
module _ (lives : List (List Interval)) (IsHop : Hop → Type 0) (query : PathQuery) (start : ℕ → ℕ → Option ℕ) (takes_time : (hop : Hop) → IsHop hop → 1 ≤ hop.time) (best : (v t : ℕ) → IsBestWithin (vertex_is_alive lives) IsHop query 1 v t (start v t)) where
  kept-as : (kind : Kind) (good : ℕ → ℕ → Bool) → ((x y : ℕ) → IsAsGood kind x y → IsTrue (good x y)) → query.kind ≡ kind → query.kind ≢ Latest → (v p q x : ℕ) → Waits (vertex_is_alive lives) v p q → start v p ≡ Some x → (y : ℕ) × (start v q ≡ Some y) × IsTrue (good y x)
  kept-as kind good tests asked onward v p q x waits is =
      let found = start-kept (vertex_is_alive lives) IsHop query onward start best v p q x waits is in
      (found.0, found.1, tests found.0 x (subst (λ k. IsAsGood k found.0 x) asked found.2))

  -- whether a vertex is reached: the values are 0
  pub search_for_reach : query.kind ≡ Reach → IsJourneySearch reach_values lives IsHop start
  search_for_reach asked =
      let onward : query.kind ≢ Latest = λ late. cc (asked, late) in
      record {
        lawful = reach_is_lawful;
        takes_time = takes_time;
        alive = start-alive (vertex_is_alive lives) IsHop query onward start best;
        stands = λ v t x is.
            let waiting = start-waits (vertex_is_alive lives) IsHop query onward start best v t x is in
            eq-eqb x 0 (sym waiting.2 ∙ ap (λ kind. journey_value kind waiting.0 []) asked);
        kept = kept-as Reach nat_le le-leb asked onward;
      }

  -- how early it is reached: the values are instants, and none is after the instant at which it is the value
  pub search_for_earliest : query.kind ≡ Earliest → IsJourneySearch earliest_values lives IsHop start
  search_for_earliest asked =
      let onward : query.kind ≢ Latest = λ late. cc (asked, late) in
      record {
        lawful = earliest_is_lawful;
        takes_time = takes_time;
        alive = start-alive (vertex_is_alive lives) IsHop query onward start best;
        stands = λ v t x is.
            let waiting = start-waits (vertex_is_alive lives) IsHop query onward start best v t x is in
            let same : x ≡ waiting.0 = sym waiting.2 ∙ ap (λ kind. journey_value kind waiting.0 []) asked in
            le-leb x t (omega (arith, same, waiting.1.waits.order));
        kept = kept-as Earliest nat_le le-leb asked onward;
      }

  -- a start value of the cheapest journeys is 0
  pub cheapest_start : query.kind ≡ Cheapest → (v t x : ℕ) → start v t ≡ Some x → x ≡ 0
  cheapest_start asked v t x is =
      let waiting = start-waits (vertex_is_alive lives) IsHop query (λ late. cc (asked, late)) start best v t x is in
      sym waiting.2 ∙ ap (λ kind. journey_value kind waiting.0 []) asked

  -- how cheaply: the values are 0, below 2^64
  pub search_for_cheapest : query.kind ≡ Cheapest → IsJourneySearch saturating_values lives IsHop start
  search_for_cheapest asked =
      let onward : query.kind ≢ Latest = λ late. cc (asked, late) in
      record {
        lawful = saturating_is_lawful;
        takes_time = takes_time;
        alive = start-alive (vertex_is_alive lives) IsHop query onward start best;
        stands = λ v t x is. subst (λ n. IsTrue (saturating_values.stands n t)) (sym (cheapest_start asked v t x is)) refl;
        kept = kept-as Cheapest nat_le le-leb asked onward;
      }

  -- how late one can start: the values are instants
  pub search_for_fastest : query.kind ≡ Fastest → IsJourneySearch fastest_values lives IsHop start
  search_for_fastest asked =
      let onward : query.kind ≢ Latest = λ late. cc (asked, late) in
      record {
        lawful = fastest_is_lawful;
        takes_time = takes_time;
        alive = start-alive (vertex_is_alive lives) IsHop query onward start best;
        stands = λ v t x is. refl;
        kept = kept-as Fastest (λ x y. nat_le y x) (λ x y. le-leb y x) asked onward;
      }
