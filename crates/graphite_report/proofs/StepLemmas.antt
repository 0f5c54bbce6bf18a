-- The steps of a written journey are one list, along edges of the table, and are what is found.
use Rattle.std.proofs.Common.{◌≡◌, ℕ, ◌<◌, Bool, List, [], ◌∷◌, All, map, flat_map, Option, Some, None, refl, sym, ap, ◌∙◌, subst}
use Rattle.std.proofs.lemmas.List.Elements.{All-nil, All-cons, All-contains}
use Rattle.graphite_api.specs.declared.arc.Arc.{Arc}
use Rattle.graphite_api.specs.declared.kind.Kind.{Kind}
use Rattle.graphite_api.specs.declared.kind.Kind.TheVariants.{Reach, Earliest, Cheapest, Fastest, Latest}
use Rattle.graphite_api.specs.declared.path_query.PathQuery.{PathQuery}
use Rattle.graphite_api.specs.Hop.{Hop}
use Rattle.graphite_api.specs.Journey.{IsJourney, IsAskedFor, IsBestOverAll}
use Rattle.graphite_api.specs.TableHops.{IsHopOn}
use Rattle.graphite_api.proofs.WrittenLemmas.{journey-one}
use Rattle.graphite_witness.specs.declared.step.Step.{Step}
use Rattle.graphite_witness.specs.Answered.{AreOnce}
use Rattle.graphite_witness.specs.Steps.{step_of, AreSteps, IsWitness}
use Rattle.graphite_report.specs.Report.{step_line, steps_after}

-- the steps of a written journey are one list
steps_one : (alive : ℕ → ℕ → Bool) (IsHop : Hop → Type 0) (query : PathQuery) (v t : ℕ) (steps others : List Step) → AreOnce IsHop → AreSteps alive IsHop query v t steps → AreSteps alive IsHop query v t others → steps ≡ others
steps_one alive IsHop query v t steps others once (at, hops, written, is) (other_at, other_hops, again, are) =
    let same = journey-one alive IsHop query (λ v t x. IsBestOverAll alive IsHop query v t (Some x)) once at other_at hops other_hops v t written again in
    is ∙ ap (map step_of) same.1 ∙ sym are

-- ---- the edges of the steps

-- the hops of a journey are along edges below n, where the arcs are
journey_edges : (alive : ℕ → ℕ → Bool) (arcs : List Arc) (n : ℕ) (hops : List Hop) (s p v q : ℕ) → All (λ (arc : Arc). arc.edge < n) arcs → IsJourney alive (IsHopOn arcs) s p hops v q → All (λ (step : Step). step.edge < n) (map step_of hops)
journey_edges alive arcs n [] s p v q below leads = All-nil (λ (step : Step). step.edge < n)
journey_edges alive arcs n (hop ∷ hops) s p v q below leads =
    let on = leads.0 in
    let least : on.arc.edge < n = All-contains (λ (arc : Arc). arc.edge < n) arcs on.arc below on.among in
    All-cons (λ (step : Step). step.edge < n) (step_of hop) (map step_of hops) (subst (λ e. e < n) (sym (ap (λ (hop : Hop). hop.edge) on.is)) least) (journey_edges alive arcs n hops _ _ v q below leads.3)

asked_edges : (alive : ℕ → ℕ → Bool) (arcs : List Arc) (n : ℕ) (kind : Kind) (hops : List Hop) (vertex at v t : ℕ) → All (λ (arc : Arc). arc.edge < n) arcs → IsAskedFor alive (IsHopOn arcs) kind vertex at hops v t → All (λ (step : Step). step.edge < n) (map step_of hops)
asked_edges alive arcs n Reach hops vertex at v t below leads = journey_edges alive arcs n hops vertex at v t below leads
asked_edges alive arcs n Earliest hops vertex at v t below leads = journey_edges alive arcs n hops vertex at v t below leads
asked_edges alive arcs n Cheapest hops vertex at v t below leads = journey_edges alive arcs n hops vertex at v t below leads
asked_edges alive arcs n Fastest hops vertex at v t below leads = journey_edges alive arcs n hops vertex at v t below leads
asked_edges alive arcs n Latest hops vertex at v t below leads = journey_edges alive arcs n hops v t vertex at below leads

steps_edges : (alive : ℕ → ℕ → Bool) (arcs : List Arc) (n : ℕ) (query : PathQuery) (v t : ℕ) (steps : List Step) → All (λ (arc : Arc). arc.edge < n) arcs → AreSteps alive (IsHopOn arcs) query v t steps → All (λ (step : Step). step.edge < n) steps
steps_edges alive arcs n query v t steps below (at, hops, written, is) =
    subst (All (λ (step : Step). step.edge < n)) (sym is) (asked_edges alive arcs n query.kind hops query.vertex at v t below written.leads)

-- ---- what is found

-- the steps found are along edges of the table
pub found_edges : (alive : ℕ → ℕ → Bool) (arcs : List Arc) (n : ℕ) (query : PathQuery) (v t : ℕ) (value : Option ℕ) (found : List Step) → All (λ (arc : Arc). arc.edge < n) arcs → IsWitness alive (IsHopOn arcs) query v t value (Some found) → All (λ (step : Step). step.edge < n) found
found_edges alive arcs n query v t None found below is = cc
found_edges alive arcs n query v t (Some x) found below is = steps_edges alive arcs n query v t found below is

-- their lines are those of the steps that are told
pub found_lines : (alive : ℕ → ℕ → Bool) (IsHop : Hop → Type 0) (query : PathQuery) (v t : ℕ) (edge_name : ℕ → List ℕ) (value : Option ℕ) (found steps : List Step) → AreOnce IsHop → IsWitness alive IsHop query v t value (Some found) → ((x : ℕ) → value ≡ Some x → AreSteps alive IsHop query v t steps) → flat_map (step_line edge_name) found ≡ steps_after edge_name value steps
found_lines alive IsHop query v t edge_name None found steps once is told = cc
found_lines alive IsHop query v t edge_name (Some x) found steps once is told =
    ap (flat_map (step_line edge_name)) (steps_one alive IsHop query v t found steps once is (told x refl))
