-- The best values of lists of hops are those of the journeys that a query asks about, for each question.
use Rattle.std.proofs.Common.{◌≡◌, ◌≢◌, sym, ◌∙◌, ap, subst, ℕ, ◌-◌, ◌^◌, ◌<◌, ◌≤◌, Bool, List, [], ◌∷◌, All, length, Option, Some, arith}
use Rattle.graphite_api.specs.declared.TheConstants.{STEP_LIMIT}
use Rattle.graphite_api.specs.declared.arc.Arc.{Arc}
use Rattle.graphite_api.specs.declared.kind.Kind.TheVariants.{Reach, Earliest, Cheapest, Fastest, Latest}
use Rattle.graphite_api.specs.declared.path_query.PathQuery.{PathQuery}
use Rattle.graphite_api.specs.Hop.{Hop}
use Rattle.graphite_api.specs.Journey.{journey_value, IsAsGood, IsValueWithin, IsBestWithin}
use Rattle.graphite_api.specs.KindValues.{values_of, reach_values, earliest_values, fastest_values, saturating_values}
use Rattle.graphite_api.specs.TableHops.{IsHopOn}
use Rattle.graphite_api.specs.Values.{Values}
use Rattle.graphite_api.proofs.BestLemmas.{IsBest-is}
use Rattle.graphite_api.proofs.CrossingLemmas.{attained-within, within-attained, lists-over_all}
use Rattle.graphite_api.proofs.DepartureLemmas.{arc_of_hop, hop_is_along}
use Rattle.graphite_api.proofs.SaturatingLemmas.{saturating-within, exact-within, exact-lists}
use Rattle.graphite_loop.specs.Journeys.{IsSettledWithin as AreSettledLists, IsFirstSettled as IsFirstOfLists}
use Rattle.graphite_paths.specs.Answer.{IsSettledWithin, IsFirstSettled}
use Rattle.graphite_paths.specs.Crossing.{AreCrossed}

module _ (alive : ℕ → ℕ → Bool) (IsHop : Hop → Type 0) (query : PathQuery) (start : ℕ → ℕ → Option ℕ) (starts : (v t : ℕ) → IsBestWithin alive IsHop query 1 v t (start v t)) where
  -- every question about journeys from a vertex
  crossed : query.kind ≢ Latest → AreCrossed (values_of query.kind) alive IsHop query start
  crossed other = record {
    within = λ k v t o few. (attained-within alive IsHop query other start starts k v t o, within-attained alive IsHop query other start starts k v t o);
    over_all = λ k v t o few within best. lists-over_all alive IsHop query other start starts v t o best;
  }

  pub crossed_reach : query.kind ≡ Reach → AreCrossed reach_values alive IsHop query start
  crossed_reach is = subst (λ kind. AreCrossed (values_of kind) alive IsHop query start) is (crossed (λ late. cc (is, late)))

  pub crossed_earliest : query.kind ≡ Earliest → AreCrossed earliest_values alive IsHop query start
  crossed_earliest is = subst (λ kind. AreCrossed (values_of kind) alive IsHop query start) is (crossed (λ late. cc (is, late)))

  pub crossed_fastest : query.kind ≡ Fastest → AreCrossed fastest_values alive IsHop query start
  crossed_fastest is = subst (λ kind. AreCrossed (values_of kind) alive IsHop query start) is (crossed (λ late. cc (is, late)))

  exact : query.kind ≡ Cheapest → AreCrossed (values_of Cheapest) alive IsHop query start
  exact is = subst (λ kind. AreCrossed (values_of kind) alive IsHop query start) is (crossed (λ late. cc (is, late)))

  -- a journey without hops costs nothing
  free : query.kind ≡ Cheapest → (v t x : ℕ) → start v t ≡ Some x → x ≡ 0
  free is v t x has = by value.hops value.short (ap (λ kind. journey_value kind value.at value.hops) (sym is) ∙ value.is)
    where
      value : IsValueWithin alive IsHop query 1 v t x
      value = IsBest-is (IsAsGood query.kind) (IsValueWithin alive IsHop query 1 v t) (start v t) x has (starts v t)

      by : (hops : List Hop) → length hops < 1 → journey_value Cheapest value.at hops ≡ x → x ≡ 0
      by [] short costs = sym costs
      by (hop ∷ hops) short costs = absurd (omega (arith, short))

  -- the sums of a machine's numbers
  crossed_cheapest : query.kind ≡ Cheapest → ((hop : Hop) → IsHop hop → hop.cost < 2 ^ 32) → AreCrossed saturating_values alive IsHop query start
  crossed_cheapest is costs = record {
    within = λ k v t o few. (
      λ best. ((exact is).within k v t o few).0 (exact-within alive IsHop start costs (free is) k v t o few best),
      λ best. saturating-within alive IsHop start costs (free is) k v t o few (((exact is).within k v t o few).1 best),
    );
    over_all = λ k v t o few within best. (exact is).over_all k v t o few (exact-within alive IsHop start costs (free is) k v t o few within) (exact-lists alive IsHop start costs (free is) k v t o few within best);
  }

-- on a table, whose costs are numbers of 32 bits
pub crossed_on_table : (alive : ℕ → ℕ → Bool) (arcs : List Arc) → All (λ arc. arc.cost < 2 ^ 32) arcs → (query : PathQuery) (start : ℕ → ℕ → Option ℕ) → ((v t : ℕ) → IsBestWithin alive (IsHopOn arcs) query 1 v t (start v t)) → query.kind ≡ Cheapest → AreCrossed saturating_values alive (IsHopOn arcs) query start
crossed_on_table alive arcs costs query start starts is =
    crossed_cheapest alive (IsHopOn arcs) query start starts is
    (λ hop on. subst (λ n. n < 2 ^ 32) (sym (hop_is_along arcs hop on).cost) (arc_of_hop (λ (arc : Arc). arc.cost < 2 ^ 32) arcs hop on costs))

module _ (values : Values) (alive : ℕ → ℕ → Bool) (IsHop : Hop → Type 0) (query : PathQuery) (start : ℕ → ℕ → Option ℕ) (are : AreCrossed values alive IsHop query start) where
  -- lists are settled within k where journeys are
  pub settled_lists : (k : ℕ) → k ≤ STEP_LIMIT → AreSettledLists values alive IsHop start k → IsSettledWithin alive IsHop query k
  settled_lists k few settled = λ v t o. (
    λ best. (are.within k v t o few).0 ((settled v t o).0 ((are.within (k - 1) v t o (omega (arith, few))).1 best)),
    λ best. (are.within (k - 1) v t o (omega (arith, few))).0 ((settled v t o).1 ((are.within k v t o few).1 best)),
  )

  pub settled_journeys : (k : ℕ) → k ≤ STEP_LIMIT → IsSettledWithin alive IsHop query k → AreSettledLists values alive IsHop start k
  settled_journeys k few settled = λ v t o. (
    λ best. (are.within k v t o few).1 ((settled v t o).0 ((are.within (k - 1) v t o (omega (arith, few))).0 best)),
    λ best. (are.within (k - 1) v t o (omega (arith, few))).1 ((settled v t o).1 ((are.within k v t o few).0 best)),
  )

  -- and so is the first number within which they are settled
  pub first_settled : (steps made : ℕ) → steps ≤ STEP_LIMIT → IsFirstOfLists values alive IsHop start steps made → IsFirstSettled alive IsHop query steps made
  first_settled steps made few first =
      let within = first.within in
      record {
        some = first.some;
        within = within;
        earlier = λ k low high settled. first.earlier k low high (settled_journeys k (omega (arith, few, within, high)) settled);
        stopped = λ less. settled_lists made (omega (arith, few, within)) (first.stopped less);
      }
