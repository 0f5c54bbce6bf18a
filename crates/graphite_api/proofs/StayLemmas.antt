-- Waiting within one lifespan: whoever waits from an instant of it is still in it, since none holds the instant where it ends.
use Rattle.std.proofs.Common.{◌≡◌, sym, ◌∙◌, ap, subst, ℕ, ◌+◌, ◌<◌, ◌≤◌, true, IsTrue, List, [], ◌∷◌, length, All, Some, is_some, arith, ◌⊎◌, inl, inr, ⊎_elim}
use Rattle.std.proofs.lemmas.Bool.{cases_lt, false≢true}
use Rattle.std.proofs.lemmas.Option.{none-some}
use Rattle.std.proofs.lemmas.List.{get_or_past}
use Rattle.std.proofs.lemmas.List.Elements.{All-get_or}
use Rattle.graphite_time.specs.declared.interval.Interval.{Interval}
use Rattle.graphite_time.specs.Interval.{start_of, end_of, holds}
use Rattle.graphite_time.specs.Life.{is_held, lifespan_at, IsLife}
use Rattle.graphite_time.proofs.LifeLemmas.{holds-true, holds-from, is_some-lifespan_at, lifespan_at-holds, held_by_stay, not_held_at_end}
use Rattle.graphite_api.specs.declared.arc.Arc.{Arc}
use Rattle.graphite_api.specs.Hop.{Waits}
use Rattle.graphite_api.specs.Table.{life_of, vertex_is_alive}
use Rattle.graphite_api.specs.TableHops.{StaysAt}

-- what is listed for a vertex is a life, or nothing
life_of-cases : (lives : List (List Interval)) (v : ℕ) → All IsLife lives → IsLife (life_of lives v) ⊎ (life_of lives v ≡ [])
life_of-cases lives v are =
    ⊎_elim (λ (less : v < length lives). inl (All-get_or IsLife lives v [] less are))
    (λ (past : length lives ≤ v). inr (get_or_past lives v [] past))
    (cases_lt v (length lives))

dead_at_end : (spans : List Interval) (s : ℕ) (stay : Interval) → IsLife spans → lifespan_at spans s ≡ Some stay → is_held spans (end_of stay) ≡ true → ⊥
dead_at_end [] s stay life found held = absurd life
dead_at_end (span ∷ spans) s stay life found held =
    let none = ap is_some (not_held_at_end span spans s stay life found) in
    false≢true (sym none ∙ is_some-lifespan_at (span ∷ spans) (end_of stay) ∙ held)

-- a vertex is not alive at the instant where one of its lifespans ends
pub not_alive_at_end : (lives : List (List Interval)) (v s : ℕ) (stay : Interval) → All IsLife lives → lifespan_at (life_of lives v) s ≡ Some stay → IsTrue (vertex_is_alive lives v (end_of stay)) → ⊥
not_alive_at_end lives v s stay are found held =
    ⊎_elim (λ (life : IsLife (life_of lives v)). dead_at_end (life_of lives v) s stay life found held)
    (λ (none : life_of lives v ≡ []). none-some stay (subst (λ spans. lifespan_at spans s ≡ Some stay) none found))
    (life_of-cases lives v are)

module _ (lives : List (List Interval)) (v s : ℕ) (stay : Interval) (found : lifespan_at (life_of lives v) s ≡ Some stay) where
  -- from an instant of a lifespan to a later one of it a vertex waits
  pub waits_in_lifespan : (p q : ℕ) → holds stay p ≡ true → holds stay q ≡ true → p ≤ q → Waits (vertex_is_alive lives) v p q
  waits_in_lifespan p q from to order =
      let low = holds-true stay p from in
      let high = holds-true stay q to in
      record {
        order = order;
        lives = λ t after before. held_by_stay (life_of lives v) s t stay found (holds-from stay t (omega arith) (omega arith));
      }

  -- whoever waits from an instant of a lifespan is still in it
  pub lifespan_of_waits : (p q : ℕ) → All IsLife lives → holds stay p ≡ true → Waits (vertex_is_alive lives) v p q → holds stay q ≡ true
  lifespan_of_waits p q are from waits =
      let low = holds-true stay p from in
      let order : p ≤ q = waits.order in
      ⊎_elim (λ (inside : q < end_of stay). holds-from stay q (omega arith) inside)
      (λ (past : end_of stay ≤ q). absurd (not_alive_at_end lives v s stay are found (waits.lives (end_of stay) (omega arith) past)))
      (cases_lt q (end_of stay))

-- the lifespan that holds the first instant of a wait holds the last one
pub waits-one_lifespan : (lives : List (List Interval)) (v p q : ℕ) (span : Interval) → All IsLife lives → lifespan_at (life_of lives v) p ≡ Some span → Waits (vertex_is_alive lives) v p q → holds span q ≡ true
waits-one_lifespan lives v p q span are found waits =
    lifespan_of_waits lives v p span found p q are (lifespan_at-holds (life_of lives v) p span found) waits

module _ (lives : List (List Interval)) (arc : Arc) (stays : StaysAt lives arc) where
  -- an arrival of the arc is in the lifespan that it names
  pub stay-arrival : (depart : ℕ) → IsTrue (holds arc.over depart) → IsTrue (holds arc.stay (depart + arc.time))
  stay-arrival depart held =
      let first = holds-true arc.stay (start_of arc.over + arc.time) (lifespan_at-holds (life_of lives arc.to) (start_of arc.over + arc.time) arc.stay stays.lifespan) in
      let inside = holds-true arc.over depart held in
      let last : end_of arc.over + arc.time ≤ end_of arc.stay = stays.last in
      holds-from arc.stay (depart + arc.time) (omega arith) (omega arith)

  -- within that lifespan the target waits
  pub stay-waits : (p t : ℕ) → IsTrue (holds arc.stay p) → p ≤ t → IsTrue (holds arc.stay t) → Waits (vertex_is_alive lives) arc.to p t
  stay-waits p t from order to =
      waits_in_lifespan lives arc.to (start_of arc.over + arc.time) arc.stay stays.lifespan p t from to order

  -- and the target waits no longer than that
  pub waits-stay : (p t : ℕ) → All IsLife lives → IsTrue (holds arc.stay p) → Waits (vertex_is_alive lives) arc.to p t → IsTrue (holds arc.stay t)
  waits-stay p t are from waits =
      lifespan_of_waits lives arc.to (start_of arc.over + arc.time) arc.stay stays.lifespan p t are from waits
