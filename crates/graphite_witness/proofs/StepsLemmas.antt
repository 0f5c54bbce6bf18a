-- The steps of a written journey are one list, and there are some wherever there is a best value.
use Rattle.std.proofs.Common.{◌≡◌, refl, sym, ap, ◌∙◌, ℕ, ◌<◌, ◌≤◌, Bool, List, [], map, Option, None, Some}
use Rattle.std.proofs.lemmas.Option.{none-some}
use Rattle.graphite_time.specs.declared.interval.Interval.{Interval}
use Rattle.graphite_part.specs.declared.piece.Piece.{Piece}
use Rattle.graphite_api.specs.declared.arc.Arc.{Arc}
use Rattle.graphite_api.specs.declared.path_query.PathQuery.{PathQuery}
use Rattle.graphite_api.specs.Hop.{Hop}
use Rattle.graphite_api.specs.Journey.{IsAskedFor, journey_value, IsBestOverAll}
use Rattle.graphite_api.specs.Table.{vertex_is_alive, IsTable}
use Rattle.graphite_api.specs.TableHops.{IsHopOn}
use Rattle.graphite_api.proofs.WrittenLemmas.{written-one, written-best}
use Rattle.graphite_witness.specs.declared.step.Step.{Step}
use Rattle.graphite_witness.specs.Answered.{value_for, AreOnce, IsAnswered}
use Rattle.graphite_witness.specs.Steps.{step_of, AreSteps}
use Rattle.graphite_witness.proofs.EndLemmas.{value_for-Best, ends, begins}
use Rattle.graphite_witness.proofs.ExistsLemmas.{written_exists}

pub steps-one : (alive : ℕ → ℕ → Bool) (IsHop : Hop → Type 0) (query : PathQuery) (v t : ℕ) (xs ys : List Step) → AreOnce IsHop → AreSteps alive IsHop query v t xs → AreSteps alive IsHop query v t ys → xs ≡ ys
steps-one alive IsHop query v t xs ys once written again =
    written.3
    ∙ ap (map step_of)
    (written-one alive IsHop query (λ v t x. IsBestOverAll alive IsHop query v t (Some x)) once query.kind written.1 again.1 v t written.2.hops_are again.2.hops_are)
    ∙ sym again.3

-- the steps are those of a journey with the best value
pub steps-best : (alive : ℕ → ℕ → Bool) (IsHop : Hop → Type 0) (query : PathQuery) (v t : ℕ) (steps : List Step) → AreSteps alive IsHop query v t steps
    → (at : ℕ) × (hops : List Hop) × (query.from ≤ at) × (at < query.until)
    × IsAskedFor alive IsHop query.kind query.vertex at hops v t
    × IsBestOverAll alive IsHop query v t (Some (journey_value query.kind at hops))
    × (steps ≡ map step_of hops)
steps-best alive IsHop query v t steps are = (
  are.0,
  are.1,
  are.2.from,
  are.2.until,
  are.2.leads,
  written-best alive IsHop query are.0 are.1 v t are.2,
  are.3,
)

module _ (lives : List (List Interval)) (arcs : List Arc) (query : PathQuery) (values : List (List (Piece (Option ℕ)))) (table : IsTable lives arcs) (answered : IsAnswered lives arcs query values) where
  abbrev StepsFor : (v t : ℕ) → Option ℕ → Type 0
  StepsFor v t value = (steps : List Step) × ((x : ℕ) → value ≡ Some x → AreSteps (vertex_is_alive lives) (IsHopOn arcs) query v t steps)

  steps-at : (v t : ℕ) (value : Option ℕ) → value_for values v t ≡ value → StepsFor v t value
  steps-at v t None is = ([], λ x some. absurd (none-some x some))
  steps-at v t (Some x) is =
      let written = written_exists lives arcs query values table answered
      (λ arc among v t x best d. ends lives arcs query values answered table arc among v t x best d)
      (λ arc among v t x best. begins lives arcs query values answered table arc among v t x best)
      v t x (value_for-Best lives arcs query values answered v t x is) in
      (map step_of written.1, λ y some. (written.0, written.1, written.2, refl))

  pub steps-exist : (steps : ℕ → ℕ → List Step) × ((v t x : ℕ) → value_for values v t ≡ Some x → AreSteps (vertex_is_alive lives) (IsHopOn arcs) query v t (steps v t))
  steps-exist = (
    λ v t. (steps-at v t (value_for values v t) refl).0,
    λ v t x is. (steps-at v t (value_for values v t) refl).1 x is,
  )
