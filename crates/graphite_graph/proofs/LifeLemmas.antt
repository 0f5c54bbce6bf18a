-- What holds at each instant of a span, and the comparison of ends that decides it.
use Rattle.std.proofs.Common.{◌≡◌, refl, sym, ap, ◌∙◌, ℕ, suc, ◌≤◌, arith, Bool, true, false, cond, ◌||◌, List, [], ◌∷◌, map, Some, option_map, IsTrue, ◌↔◌}
use Rattle.std.specs.List.{find}
use Rattle.graphite_time.specs.declared.interval.Interval.{Interval}
use Rattle.graphite_time.specs.Interval.{holds}
use Rattle.graphite_time.specs.Life.{is_held, lifespan_at}
use Rattle.graphite_time.proofs.LifeLemmas.{holds_after}
use Rattle.graphite_text.specs.declared.span.Span.{Span}
use Rattle.graphite_text.specs.Graph.{is_alive, spans}
use Rattle.graphite_text.specs.Graph as plain
use Rattle.graphite_text.specs.Reading.{throughout}
use Rattle.graphite_text.specs.Spans.{as_span}
use Rattle.graphite_text.proofs.ThroughoutLemmas.{throughout-true, throughout-from}
use Rattle.graphite_props.proofs.ListLemmas.{list_any-map}
use Rattle.graphite_graph.specs.Life.{EndsBy}

pub is_alive-as_span : (life : List Interval) (t : ℕ) → is_alive (map as_span life) t ≡ is_held life t
is_alive-as_span life t = list_any-map (λ over. spans over t) as_span life

as_true : (a b : Bool) → (a ≡ true → b ≡ true) → (b ≡ true → a ≡ true) → a ≡ b
as_true true b to back = sym (to refl)
as_true false true to back = back refl
as_true false false to back = refl

-- alive at each instant of a span, instant by instant or by the ends
pub covers-throughout : (life : List Interval) (over : Interval) (result : Bool)
    → IsTrue result ↔ ((t : ℕ) → IsTrue (holds over t) → IsTrue (is_held life t))
    → result ≡ throughout (is_alive (map as_span life)) (as_span over)
covers-throughout life over result covers =
    as_true result (throughout (is_alive (map as_span life)) (as_span over))
    (λ yes. throughout-from (is_alive (map as_span life)) over (λ t inside. is_alive-as_span life t ∙ covers.0 yes t inside))
    (λ all. covers.1 (λ t inside. sym (is_alive-as_span life t) ∙ throughout-true (is_alive (map as_span life)) over all t inside))

-- nothing lives at an instant where each lifespan has ended
pub ended_life : (horizon t : ℕ) (life : List Interval) → EndsBy horizon life → horizon ≤ t → is_alive (map as_span life) t ≡ false
ended_life horizon t [] ends past = refl
ended_life horizon t (over ∷ life) ends past =
    ap (λ b. b || is_alive (map as_span life) t) (holds_after over t (omega (arith, ends 0 over (omega arith), past)))
    ∙ ended_life horizon t life (λ k d within. ends (suc k) d (omega arith)) past

-- the first that passes among what is made of others
find-map : {X Y : Type 0} (p : Y → Bool) (f : X → Y) (xs : List X) → option_map f (find (λ x. p (f x)) xs) ≡ find p (map f xs)
find-map p f [] = refl
find-map p f (x ∷ xs) =
    elim (p (f x)) as (λ v. option_map f (cond v (Some x) (find (λ y. p (f y)) xs)) ≡ cond v (Some (f x)) (find p (map f xs))) [
      | true ↦ refl
      | false ↦ find-map p f xs
    ]

-- the lifespan of a life that holds an instant is that of its spans
pub lifespan_at-as_span : (life : List Interval) (spans : List Span) (t : ℕ) → map as_span life ≡ spans → option_map as_span (lifespan_at life t) ≡ plain.lifespan_at spans t
lifespan_at-as_span life spans t same = find-map (λ over. plain.spans over t) as_span life ∙ ap (λ all. plain.lifespan_at all t) same
