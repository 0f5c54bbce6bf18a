-- Journeys with one hop more at their end, their values, and the questions that ask about journeys from a vertex.
use Rattle.std.proofs.Common.{◌≡◌, ◌≢◌, refl, sym, subst, ℕ, ◌+◌, Bool, IsTrue, List, [], ◌∷◌, ◌++◌, reverse, arith}
use Rattle.std.proofs.lemmas.List.{reverse-append}
use Rattle.std.proofs.lemmas.Bool.{leb-true, le-leb}
use Rattle.graphite_api.specs.declared.kind.Kind.{Kind}
use Rattle.graphite_api.specs.declared.kind.Kind.TheVariants.{Reach, Earliest, Cheapest, Fastest, Latest}
use Rattle.graphite_api.specs.Hop.{Hop, arrival, Waits}
use Rattle.graphite_api.specs.Journey.{IsJourney, IsAskedFor, IsAsGood, journey_value, last_arrival, total_cost}
use Rattle.graphite_api.specs.KindValues.{values_of}

-- the first of a list is the last of the reversed list
pub reverse-cons : {X : Type 0} (x : X) (xs : List X) → reverse (x ∷ xs) ≡ reverse xs ++ x ∷ []
reverse-cons x xs = reverse-append (x ∷ []) xs

module _ (alive : ℕ → ℕ → Bool) (IsHop : Hop → Type 0) where
  -- one hop more at the end
  pub journey-more : (s p : ℕ) (hops : List Hop) (hop : Hop) (v t : ℕ) → IsJourney alive IsHop s p hops hop.from hop.depart → IsHop hop → hop.to ≡ v → Waits alive v (arrival hop) t → IsJourney alive IsHop s p (hops ++ hop ∷ []) v t
  journey-more s p [] hop v t leads is to waits =
      (is, sym leads.0, subst (λ w. Waits alive w p hop.depart) (sym leads.0) leads.1, (to, waits))
  journey-more s p (first ∷ hops) hop v t leads is to waits =
      (leads.0, leads.1, leads.2, journey-more first.to (arrival first) hops hop v t leads.3 is to waits)

  -- the last hop, and the journey before it
  pub journey-last : (s p : ℕ) (hops : List Hop) (hop : Hop) (v t : ℕ) → IsJourney alive IsHop s p (hops ++ hop ∷ []) v t → IsJourney alive IsHop s p hops hop.from hop.depart × IsHop hop × (hop.to ≡ v) × Waits alive v (arrival hop) t
  journey-last s p [] hop v t leads =
      ((sym leads.1, subst (λ w. Waits alive w p hop.depart) (sym leads.1) leads.2), leads.0, leads.3.0, leads.3.1)
  journey-last s p (first ∷ hops) hop v t leads =
      let rest = journey-last first.to (arrival first) hops hop v t leads.3 in
      ((leads.0, leads.1, leads.2, rest.0), rest.1, rest.2, rest.3)

  -- the questions that ask about the journeys from a vertex
  pub asked-journey : (kind : Kind) → kind ≢ Latest → (vertex at : ℕ) (hops : List Hop) (v t : ℕ) → IsAskedFor alive IsHop kind vertex at hops v t → IsJourney alive IsHop vertex at hops v t
  asked-journey Reach other vertex at hops v t leads = leads
  asked-journey Earliest other vertex at hops v t leads = leads
  asked-journey Cheapest other vertex at hops v t leads = leads
  asked-journey Fastest other vertex at hops v t leads = leads
  asked-journey Latest other vertex at hops v t leads = absurd (other refl)

  pub journey-asked : (kind : Kind) → kind ≢ Latest → (vertex at : ℕ) (hops : List Hop) (v t : ℕ) → IsJourney alive IsHop vertex at hops v t → IsAskedFor alive IsHop kind vertex at hops v t
  journey-asked Reach other vertex at hops v t leads = leads
  journey-asked Earliest other vertex at hops v t leads = leads
  journey-asked Cheapest other vertex at hops v t leads = leads
  journey-asked Fastest other vertex at hops v t leads = leads
  journey-asked Latest other vertex at hops v t leads = absurd (other refl)

-- what one hop more makes of the arrival and the cost
pub last_arrival-more : (at : ℕ) (hops : List Hop) (hop : Hop) → last_arrival at (hops ++ hop ∷ []) ≡ arrival hop
last_arrival-more at [] hop = refl
last_arrival-more at (first ∷ hops) hop = last_arrival-more (arrival first) hops hop

pub total_cost-more : (hops : List Hop) (hop : Hop) → total_cost (hops ++ hop ∷ []) ≡ total_cost hops + hop.cost
total_cost-more [] hop = omega arith
total_cost-more (first ∷ hops) hop = let rest = total_cost-more hops hop in omega (arith, rest)

-- what one hop more makes of the value
pub value-more : (kind : Kind) → kind ≢ Latest → (at : ℕ) (hops : List Hop) (hop : Hop) → journey_value kind at (hops ++ hop ∷ []) ≡ (values_of kind).extend (journey_value kind at hops) hop.depart hop.time hop.cost
value-more Reach other at hops hop = refl
value-more Earliest other at hops hop = last_arrival-more at hops hop
value-more Cheapest other at hops hop = total_cost-more hops hop
value-more Fastest other at hops hop = refl
value-more Latest other at hops hop = absurd (other refl)

-- the test of the values, and what it tests
pub good-is : (kind : Kind) → kind ≢ Latest → (x y : ℕ) → IsTrue ((values_of kind).good x y) → IsAsGood kind x y
good-is Reach other x y good = leb-true x y good
good-is Earliest other x y good = leb-true x y good
good-is Cheapest other x y good = leb-true x y good
good-is Fastest other x y good = leb-true y x good
good-is Latest other x y good = absurd (other refl)

pub is-good : (kind : Kind) → kind ≢ Latest → (x y : ℕ) → IsAsGood kind x y → IsTrue ((values_of kind).good x y)
is-good Reach other x y good = le-leb x y good
is-good Earliest other x y good = le-leb x y good
is-good Cheapest other x y good = le-leb x y good
is-good Fastest other x y good = le-leb y x good
is-good Latest other x y good = absurd (other refl)

-- values are ordered
pub as_good-through : (kind : Kind) (x y z : ℕ) → IsAsGood kind x y → IsAsGood kind y z → IsAsGood kind x z
as_good-through Reach x y z first then = omega (arith, first, then)
as_good-through Earliest x y z first then = omega (arith, first, then)
as_good-through Cheapest x y z first then = omega (arith, first, then)
as_good-through Fastest x y z first then = omega (arith, first, then)
as_good-through Latest x y z first then = omega (arith, first, then)

pub as_good-one : (kind : Kind) (x y : ℕ) → IsAsGood kind x y → IsAsGood kind y x → x ≡ y
as_good-one Reach x y first then = omega (arith, first, then)
as_good-one Earliest x y first then = omega (arith, first, then)
as_good-one Cheapest x y first then = omega (arith, first, then)
as_good-one Fastest x y first then = omega (arith, first, then)
as_good-one Latest x y first then = omega (arith, first, then)
