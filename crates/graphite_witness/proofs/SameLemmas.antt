-- A written journey depends on the lives and the hops alone: where they are the same, so are its steps.
use Rattle.std.proofs.Common.{◌≡◌, ◌↔◌, subst, ℕ, Bool, List, [], ◌∷◌, reverse, Option, Some}
use Rattle.std.proofs.Math.Path.{fun_ext}
use Rattle.graphite_api.specs.declared.kind.Kind.{Kind}
use Rattle.graphite_api.specs.declared.kind.Kind.TheVariants.{Reach, Earliest, Cheapest, Fastest, Latest}
use Rattle.graphite_api.specs.declared.path_query.PathQuery.{PathQuery}
use Rattle.graphite_api.specs.Hop.{Hop, arrival}
use Rattle.graphite_api.specs.Journey.{IsJourney, IsAskedFor, IsAsGood, IsValueWithin, IsBestOverAll}
use Rattle.graphite_api.specs.Written.{CanEnd, CanBegin, IsBestWithoutHops, IsWrittenTo, IsWrittenFrom, AreWritten, IsWritten}
use Rattle.graphite_api.proofs.BestLemmas.{IsBest-same}
use Rattle.graphite_witness.specs.declared.step.Step.{Step}
use Rattle.graphite_witness.specs.Steps.{AreSteps}

-- what is there by some hops is there by more of them
module _ (alive : ℕ → ℕ → Bool) (IsHop IsHop' : Hop → Type 0) (to : (hop : Hop) → IsHop hop → IsHop' hop) where
  journey-by : (s p : ℕ) (hops : List Hop) (v q : ℕ) → IsJourney alive IsHop s p hops v q → IsJourney alive IsHop' s p hops v q
  journey-by s p [] v q leads = leads
  journey-by s p (hop ∷ hops) v q leads = (to hop leads.0, leads.1, leads.2, journey-by hop.to (arrival hop) hops v q leads.3)

  asked-by : (kind : Kind) (vertex at : ℕ) (hops : List Hop) (v t : ℕ) → IsAskedFor alive IsHop kind vertex at hops v t → IsAskedFor alive IsHop' kind vertex at hops v t
  asked-by Reach vertex at hops v t leads = journey-by vertex at hops v t leads
  asked-by Earliest vertex at hops v t leads = journey-by vertex at hops v t leads
  asked-by Cheapest vertex at hops v t leads = journey-by vertex at hops v t leads
  asked-by Fastest vertex at hops v t leads = journey-by vertex at hops v t leads
  asked-by Latest vertex at hops v t leads = journey-by v t hops vertex at leads

  value-by : (query : PathQuery) (k v t x : ℕ) → IsValueWithin alive IsHop query k v t x → IsValueWithin alive IsHop' query k v t x
  value-by query k v t x value = record {
    at = value.at;
    hops = value.hops;
    from = value.from;
    until = value.until;
    leads = asked-by query.kind query.vertex value.at value.hops v t value.leads;
    short = value.short;
    is = value.is;
  }

  module _ (Best Best' : ℕ → ℕ → ℕ → Type 0) (best : (v t x : ℕ) → Best v t x → Best' v t x) where
    ends-by : (kind : Kind) (v t : ℕ) (hop : Hop) → CanEnd alive IsHop kind Best v t hop → CanEnd alive IsHop' kind Best' v t hop
    ends-by kind v t hop can = record {
      hops = to hop can.hops;
      to = can.to;
      waits = can.waits;
      before = can.before;
      best_before = best hop.from hop.depart can.before can.best_before;
      gives = best v t _ can.gives;
    }

    begins-by : (v t : ℕ) (hop : Hop) → CanBegin alive IsHop Best v t hop → CanBegin alive IsHop' Best' v t hop
    begins-by v t hop can = record {
      hops = to hop can.hops;
      from = can.from;
      waits = can.waits;
      gives = best v t hop.depart can.gives;
      after = can.after;
      best_after = best hop.to (arrival hop) can.after can.best_after;
    }

    standing-by : (query : PathQuery) (v t : ℕ) → IsBestWithoutHops alive IsHop query Best v t → IsBestWithoutHops alive IsHop' query Best' v t
    standing-by query v t standing = (standing.0, best v t standing.0 standing.1, value-by query 1 v t standing.0 standing.2)

module _ (alive : ℕ → ℕ → Bool) (IsHop IsHop' : Hop → Type 0) (to : (hop : Hop) → IsHop hop → IsHop' hop) (from : (hop : Hop) → IsHop' hop → IsHop hop) (query : PathQuery) where
  best-same : (v t : ℕ) (value : Option ℕ) → IsBestOverAll alive IsHop query v t value → IsBestOverAll alive IsHop' query v t value
  best-same v t value best =
      IsBest-same (IsAsGood query.kind) (λ x. (k : ℕ) × IsValueWithin alive IsHop query k v t x) (λ x. (k : ℕ) × IsValueWithin alive IsHop' query k v t x) value
      (λ x there. (there.0, value-by alive IsHop IsHop' to query there.0 v t x there.1))
      (λ x there. (there.0, value-by alive IsHop' IsHop from query there.0 v t x there.1)) best

-- the hops are the same, and what is the best value is
module _ (alive : ℕ → ℕ → Bool) (IsHop IsHop' : Hop → Type 0) (to : (hop : Hop) → IsHop hop → IsHop' hop) (from : (hop : Hop) → IsHop' hop → IsHop hop) (query : PathQuery) (Best Best' : ℕ → ℕ → ℕ → Type 0) (best : (v t x : ℕ) → Best v t x → Best' v t x) (back : (v t x : ℕ) → Best' v t x → Best v t x) where
  written_to-same : (hops : List Hop) (v t : ℕ) → IsWrittenTo alive IsHop query Best hops v t → IsWrittenTo alive IsHop' query Best' hops v t
  written_to-same [] v t written = standing-by alive IsHop IsHop' to Best Best' best query v t written
  written_to-same (hop ∷ hops) v t written = (
    λ standing. written.0 (standing-by alive IsHop' IsHop from Best' Best back query v t standing),
    ends-by alive IsHop IsHop' to Best Best' best query.kind v t hop written.1,
    λ other can. written.2 other (ends-by alive IsHop' IsHop from Best' Best back query.kind v t other can),
    written_to-same hops hop.from hop.depart written.3,
  )

  written_from-same : (hops : List Hop) (v t : ℕ) → IsWrittenFrom alive IsHop query Best hops v t → IsWrittenFrom alive IsHop' query Best' hops v t
  written_from-same [] v t written = standing-by alive IsHop IsHop' to Best Best' best query v t written
  written_from-same (hop ∷ hops) v t written = (
    λ standing. written.0 (standing-by alive IsHop' IsHop from Best' Best back query v t standing),
    begins-by alive IsHop IsHop' to Best Best' best v t hop written.1,
    λ other can. written.2 other (begins-by alive IsHop' IsHop from Best' Best back v t other can),
    written_from-same hops hop.to (arrival hop) written.3,
  )

  hops-same : (kind : Kind) (hops : List Hop) (v t : ℕ) → AreWritten alive IsHop query kind Best hops v t → AreWritten alive IsHop' query kind Best' hops v t
  hops-same Reach hops v t written = written_to-same (reverse hops) v t written
  hops-same Earliest hops v t written = written_to-same (reverse hops) v t written
  hops-same Cheapest hops v t written = written_to-same (reverse hops) v t written
  hops-same Fastest hops v t written = written_to-same (reverse hops) v t written
  hops-same Latest hops v t written = written_from-same hops v t written

  written-same : (at : ℕ) (hops : List Hop) (v t : ℕ) → IsWritten alive IsHop query Best at hops v t → IsWritten alive IsHop' query Best' at hops v t
  written-same at hops v t written = record {
    hops_are = hops-same query.kind hops v t written.hops_are;
    from = written.from;
    until = written.until;
    leads = asked-by alive IsHop IsHop' to query.kind query.vertex at hops v t written.leads;
    preferred = λ other low high there. written.preferred other low high (asked-by alive IsHop' IsHop from query.kind query.vertex other hops v t there);
  }

hops-AreSteps : (alive : ℕ → ℕ → Bool) (IsHop IsHop' : Hop → Type 0) → ((hop : Hop) → IsHop hop → IsHop' hop) → ((hop : Hop) → IsHop' hop → IsHop hop) → (query : PathQuery) (v t : ℕ) (steps : List Step) → AreSteps alive IsHop query v t steps → AreSteps alive IsHop' query v t steps
hops-AreSteps alive IsHop IsHop' to from query v t steps are = (
  are.0,
  are.1,
  written-same alive IsHop IsHop' to from query
      (λ v t x. IsBestOverAll alive IsHop query v t (Some x)) (λ v t x. IsBestOverAll alive IsHop' query v t (Some x))
      (λ v t x. best-same alive IsHop IsHop' to from query v t (Some x)) (λ v t x. best-same alive IsHop' IsHop from to query v t (Some x))
      are.0 are.1 v t are.2,
  are.3,
)

-- the steps of a written journey
pub AreSteps-same : (alive alive' : ℕ → ℕ → Bool) (IsHop IsHop' : Hop → Type 0) → ((v t : ℕ) → alive v t ≡ alive' v t) → ((hop : Hop) → IsHop hop ↔ IsHop' hop) → (query : PathQuery) (v t : ℕ) (steps : List Step) → AreSteps alive IsHop query v t steps → AreSteps alive' IsHop' query v t steps
AreSteps-same alive alive' IsHop IsHop' lives same query v t steps are =
    subst (λ alive. AreSteps alive IsHop' query v t steps) (fun_ext (λ v. fun_ext (lives v)))
    (hops-AreSteps alive IsHop IsHop' (λ hop. (same hop).0) (λ hop. (same hop).1) query v t steps are)
