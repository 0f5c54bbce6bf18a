-- Journeys go with the lives and the hops: where these are the same, so are the journeys, their values, and the best of them.
use Rattle.std.proofs.Common.{◌≡◌, ◌↔◌, sym, ◌∙◌, ℕ, ◌-◌, Bool, List, [], ◌∷◌, Option, arith}
use Rattle.graphite_part.specs.declared.piece.Piece.{Piece}
use Rattle.graphite_api.specs.declared.kind.Kind.{Kind}
use Rattle.graphite_api.specs.declared.kind.Kind.TheVariants.{Reach, Earliest, Cheapest, Fastest, Latest}
use Rattle.graphite_api.specs.declared.path_query.PathQuery.{PathQuery}
use Rattle.graphite_api.specs.Hop.{Hop, arrival, Waits}
use Rattle.graphite_api.specs.Journey.{IsJourney, IsAskedFor, IsAsGood, IsValueWithin, IsBestWithin, IsBestOverAll}
use Rattle.graphite_api.proofs.BestLemmas.{IsBest-same}
use Rattle.graphite_paths.specs.Answer.{IsSettledWithin, IsFirstSettled, AreOnLives, IsPathAnswer}

-- journeys over some lives and hops are journeys over others, which have all of them
module _ (alive alive' : ℕ → ℕ → Bool) (IsHop IsHop' : Hop → Type 0) (lives : (v t : ℕ) → alive v t ≡ alive' v t) (hops : (hop : Hop) → IsHop hop → IsHop' hop) where
  waits-to : (v p q : ℕ) → Waits alive v p q → Waits alive' v p q
  waits-to v p q waits = record { order = waits.order; lives = λ t low high. sym (lives v t) ∙ waits.lives t low high }

  journey-to : (s p : ℕ) (list : List Hop) (v q : ℕ) → IsJourney alive IsHop s p list v q → IsJourney alive' IsHop' s p list v q
  journey-to s p [] v q leads = (leads.0, waits-to v p q leads.1)
  journey-to s p (hop ∷ list) v q leads =
      (hops hop leads.0, leads.1, waits-to s p hop.depart leads.2, journey-to hop.to (arrival hop) list v q leads.3)

  asked-to : (kind : Kind) (vertex at : ℕ) (list : List Hop) (v t : ℕ) → IsAskedFor alive IsHop kind vertex at list v t → IsAskedFor alive' IsHop' kind vertex at list v t
  asked-to Reach vertex at list v t leads = journey-to vertex at list v t leads
  asked-to Earliest vertex at list v t leads = journey-to vertex at list v t leads
  asked-to Cheapest vertex at list v t leads = journey-to vertex at list v t leads
  asked-to Fastest vertex at list v t leads = journey-to vertex at list v t leads
  asked-to Latest vertex at list v t leads = journey-to v t list vertex at leads

  value-to : (query : PathQuery) (k v t x : ℕ) → IsValueWithin alive IsHop query k v t x → IsValueWithin alive' IsHop' query k v t x
  value-to query k v t x value = record {
    at = value.at;
    hops = value.hops;
    from = value.from;
    until = value.until;
    leads = asked-to query.kind query.vertex value.at value.hops v t value.leads;
    short = value.short;
    is = value.is;
  }

module _ (alive alive' : ℕ → ℕ → Bool) (IsHop IsHop' : Hop → Type 0) (lives : (v t : ℕ) → alive v t ≡ alive' v t) (hops : (hop : Hop) → IsHop hop ↔ IsHop' hop) (query : PathQuery) where
  to : (k v t x : ℕ) → IsValueWithin alive IsHop query k v t x → IsValueWithin alive' IsHop' query k v t x
  to = value-to alive alive' IsHop IsHop' lives (λ hop. (hops hop).0) query

  back : (k v t x : ℕ) → IsValueWithin alive' IsHop' query k v t x → IsValueWithin alive IsHop query k v t x
  back = value-to alive' alive IsHop' IsHop (λ v t. sym (lives v t)) (λ hop. (hops hop).1) query

  -- the best of fewer than k hops, and the best of all
  pub within-same : (k v t : ℕ) (o : Option ℕ) → IsBestWithin alive IsHop query k v t o ↔ IsBestWithin alive' IsHop' query k v t o
  within-same k v t o = (
    IsBest-same (IsAsGood query.kind) (IsValueWithin alive IsHop query k v t) (IsValueWithin alive' IsHop' query k v t) o (to k v t) (back k v t),
    IsBest-same (IsAsGood query.kind) (IsValueWithin alive' IsHop' query k v t) (IsValueWithin alive IsHop query k v t) o (back k v t) (to k v t),
  )

  pub over_all-same : (v t : ℕ) (o : Option ℕ) → IsBestOverAll alive IsHop query v t o → IsBestOverAll alive' IsHop' query v t o
  over_all-same v t o best =
      IsBest-same (IsAsGood query.kind) (λ x. (k : ℕ) × IsValueWithin alive IsHop query k v t x) (λ x. (k : ℕ) × IsValueWithin alive' IsHop' query k v t x) o
      (λ x value. (value.0, to value.0 v t x value.1)) (λ x value. (value.0, back value.0 v t x value.1)) best

  -- within how many hops the values are settled
  pub settled-same : (k : ℕ) → IsSettledWithin alive IsHop query k ↔ IsSettledWithin alive' IsHop' query k
  settled-same k = (
    λ settled v t o. (
      λ best. (within-same k v t o).0 ((settled v t o).0 ((within-same (k - 1) v t o).1 best)),
      λ best. (within-same (k - 1) v t o).0 ((settled v t o).1 ((within-same k v t o).1 best)),
    ),
    λ settled v t o. (
      λ best. (within-same k v t o).1 ((settled v t o).0 ((within-same (k - 1) v t o).0 best)),
      λ best. (within-same (k - 1) v t o).1 ((settled v t o).1 ((within-same k v t o).0 best)),
    ),
  )

  first-same : (steps made : ℕ) → IsFirstSettled alive IsHop query steps made → IsFirstSettled alive' IsHop' query steps made
  first-same steps made first = record {
    some = first.some;
    within = first.within;
    earlier = λ k low high settled. first.earlier k low high ((settled-same k).1 settled);
    stopped = λ less. (settled-same made).0 (first.stopped less);
  }

  module _ (vertices vertices' : ℕ) (as_many : vertices ≡ vertices') where
    on-same : (values : List (List (Piece (Option ℕ)))) → AreOnLives alive vertices values → AreOnLives alive' vertices' values
    on-same values on = record {
      len = on.len ∙ as_many;
      lives = λ v t among.
          let is = on.lives v t (omega (arith, among, as_many)) in
          (λ some. sym (lives v t) ∙ is.0 some, λ here. is.1 (lives v t ∙ here));
      pieces = on.pieces;
    }

    -- the whole answer
    pub answer-same : (steps : ℕ) (values : List (List (Piece (Option ℕ)))) (made : ℕ) → IsPathAnswer alive IsHop query vertices steps values made → IsPathAnswer alive' IsHop' query vertices' steps values made
    answer-same steps values made answer = record {
      on = on-same values answer.on;
      best = λ v t. over_all-same v t _ (answer.best v t);
      settled = (settled-same steps).0 answer.settled;
      made_is = first-same steps made answer.made_is;
    }
