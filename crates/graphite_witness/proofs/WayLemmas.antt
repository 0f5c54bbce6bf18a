-- The hops of a written journey, as they are found one after the other.
use Rattle.std.proofs.Common.{◌≡◌, refl, sym, ap, subst, ◌∙◌, ℕ, Bool, true, is_some, reverse, List, [], ◌∷◌, ◌++◌, map, append_assoc, append-nil, Option, None, Some}
use Rattle.std.proofs.lemmas.Bool.{false≢true}
use Rattle.graphite_time.proofs.MirrorLemmas.{map-reverse-cons}
use Rattle.graphite_api.specs.declared.kind.Kind.{Kind}
use Rattle.graphite_api.specs.declared.kind.Kind.TheVariants.{Latest}
use Rattle.graphite_api.specs.declared.path_query.PathQuery.{PathQuery}
use Rattle.graphite_api.specs.Hop.{Hop, arrival}
use Rattle.graphite_api.specs.Written.{AreWritten, CanBegin, CanEnd, IsWrittenFrom, IsWrittenTo}
use Rattle.graphite_api.proofs.JourneyLemmas.{reverse-cons}
use Rattle.graphite_witness.specs.declared.step.Step.{Step}
use Rattle.graphite_witness.specs.declared.taken.Taken.{Taken}
use Rattle.graphite_witness.specs.Found.{BestFor, Stands, IsFirstHop, IsFirstOrStands, IsFoundBegin, IsFoundEnd, IsLastHop, IsLastOrStands}
use Rattle.graphite_witness.specs.Steps.{step_of, AreSteps, IsWitness}

module _ (alive : ℕ → ℕ → Bool) (IsHop : Hop → Type 0) (query : PathQuery) where
  -- where some hop can be the last one, one is found
  pub last-found : (v t : ℕ) (o : Option Taken) → (Stands alive IsHop query v t → ⊥) → (hop : Hop) × CanEnd alive IsHop query.kind (BestFor alive IsHop query) v t hop → IsFoundEnd alive IsHop query v t o → IsLastOrStands alive IsHop query v t o
  last-found v t None none some found = absurd (found some.0 some.1)
  last-found v t (Some taken) none some found = (none, found)

  pub first-found : (v t : ℕ) (o : Option Taken) → (Stands alive IsHop query v t → ⊥) → (hop : Hop) × CanBegin alive IsHop (BestFor alive IsHop query) v t hop → IsFoundBegin alive IsHop query v t o → IsFirstOrStands alive IsHop query v t o
  first-found v t None none some found = absurd (found some.0 some.1)
  first-found v t (Some taken) none some found = (none, found)

  -- what is still to be found at v and t goes on from the steps so far to the whole written journey for v0 at t0
  abbrev pub GoesOnBack : (v0 t0 : ℕ) → List Step → (v t : ℕ) → Type 0
  GoesOnBack v0 t0 steps v t =
      (hops : List Hop) → IsWrittenTo alive IsHop query (BestFor alive IsHop query) hops v t
      → (all : List Hop) × IsWrittenTo alive IsHop query (BestFor alive IsHop query) all v0 t0 × (map step_of all ≡ steps ++ map step_of hops)

  abbrev pub GoesOn : (v0 t0 : ℕ) → List Step → (v t : ℕ) → Type 0
  GoesOn v0 t0 steps v t =
      (hops : List Hop) → IsWrittenFrom alive IsHop query (BestFor alive IsHop query) hops v t
      → (all : List Hop) × IsWrittenFrom alive IsHop query (BestFor alive IsHop query) all v0 t0 × (map step_of all ≡ steps ++ map step_of hops)

  pub back-begin : (v t : ℕ) → GoesOnBack v t [] v t
  back-begin v t hops written = (hops, written, refl)

  pub onward-begin : (v t : ℕ) → GoesOn v t [] v t
  onward-begin v t hops written = (hops, written, refl)

  pub back-more : (v0 t0 : ℕ) (steps : List Step) (v t : ℕ) (taken : Taken) → (Stands alive IsHop query v t → ⊥) → IsLastHop alive IsHop query v t taken → GoesOnBack v0 t0 steps v t → GoesOnBack v0 t0 (steps ++ taken.step ∷ []) taken.other taken.step.depart
  back-more v0 t0 steps v t taken none last on hops written =
      let hop : Hop = last.hop in
      let other : taken.other ≡ hop.from = ap (λ (taken : Taken). taken.other) last.is in
      let step : taken.step ≡ step_of hop = ap (λ (taken : Taken). taken.step) last.is in
      let depart : taken.step.depart ≡ hop.depart = ap (λ (step : Step). step.depart) step in
      let rest = subst (λ u. IsWrittenTo alive IsHop query (BestFor alive IsHop query) hops u hop.depart) other
      (subst (λ d. IsWrittenTo alive IsHop query (BestFor alive IsHop query) hops taken.other d) depart written) in
      let whole = on (hop ∷ hops) (none, last.ends, last.first, rest) in
      (whole.0, whole.1, whole.2 ∙ ap (λ s. steps ++ s ∷ map step_of hops) (sym step) ∙ sym (append_assoc steps (taken.step ∷ []) (map step_of hops)))

  pub onward-more : (v0 t0 : ℕ) (steps : List Step) (v t : ℕ) (taken : Taken) → (Stands alive IsHop query v t → ⊥) → IsFirstHop alive IsHop query v t taken → GoesOn v0 t0 steps v t → GoesOn v0 t0 (steps ++ taken.step ∷ []) taken.other taken.step.arrive
  onward-more v0 t0 steps v t taken none first on hops written =
      let hop : Hop = first.hop in
      let other : taken.other ≡ hop.to = ap (λ (taken : Taken). taken.other) first.is in
      let step : taken.step ≡ step_of hop = ap (λ (taken : Taken). taken.step) first.is in
      let arrive : taken.step.arrive ≡ arrival hop = ap (λ (step : Step). step.arrive) step in
      let rest = subst (λ u. IsWrittenFrom alive IsHop query (BestFor alive IsHop query) hops u (arrival hop)) other
      (subst (λ d. IsWrittenFrom alive IsHop query (BestFor alive IsHop query) hops taken.other d) arrive written) in
      let whole = on (hop ∷ hops) (none, first.begins, first.first, rest) in
      (whole.0, whole.1, whole.2 ∙ ap (λ s. steps ++ s ∷ map step_of hops) (sym step) ∙ sym (append_assoc steps (taken.step ∷ []) (map step_of hops)))

  -- where a journey without hops has the best value, the steps so far are all
  pub back-end : (v0 t0 : ℕ) (steps : List Step) (v t : ℕ) → Stands alive IsHop query v t → GoesOnBack v0 t0 steps v t → (hops : List Hop) × IsWrittenTo alive IsHop query (BestFor alive IsHop query) hops v0 t0 × (steps ≡ map step_of hops)
  back-end v0 t0 steps v t stands on =
      let whole = on [] stands in
      (whole.0, whole.1, sym (whole.2 ∙ append-nil steps))

  pub onward-end : (v0 t0 : ℕ) (steps : List Step) (v t : ℕ) → Stands alive IsHop query v t → GoesOn v0 t0 steps v t → (hops : List Hop) × IsWrittenFrom alive IsHop query (BestFor alive IsHop query) hops v0 t0 × (steps ≡ map step_of hops)
  onward-end v0 t0 steps v t stands on =
      let whole = on [] stands in
      (whole.0, whole.1, sym (whole.2 ∙ append-nil steps))

  pub written-onward : (kind : Kind) → kind ≡ Latest → (hops : List Hop) (v t : ℕ) → IsWrittenFrom alive IsHop query (BestFor alive IsHop query) hops v t → AreWritten alive IsHop query kind (BestFor alive IsHop query) hops v t
  written-onward kind latest hops v t written = subst (λ kind. AreWritten alive IsHop query kind (BestFor alive IsHop query) hops v t) (sym latest) written

-- the steps of a written journey are found where there is a value
pub found-steps : (alive : ℕ → ℕ → Bool) (IsHop : Hop → Type 0) (query : PathQuery) (v t : ℕ) (o : Option ℕ) (steps : List Step) → is_some o ≡ true → AreSteps alive IsHop query v t steps → IsWitness alive IsHop query v t o (Some steps)
found-steps alive IsHop query v t None steps some are = absurd (false≢true some)
found-steps alive IsHop query v t (Some x) steps some are = are

-- the steps of hops that are turned round
pub steps-turned : (hops : List Hop) → map step_of (reverse hops) ≡ reverse (map step_of hops)
steps-turned [] = refl
steps-turned (hop ∷ hops) =
    map-reverse-cons step_of hop hops ∙ ap (λ steps. steps ++ step_of hop ∷ []) (steps-turned hops) ∙ sym (reverse-cons (step_of hop) (map step_of hops))
