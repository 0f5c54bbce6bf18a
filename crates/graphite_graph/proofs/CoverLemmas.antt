-- Covers: of the lifespans of a life one at most holds an instant, so a life counts as one.
use Rattle.std.proofs.Common.{◌≡◌, ℕ, ◌+◌, ◌≤◌, ◌<◌, Bool, true, false, cond, ◌||◌, List, [], ◌∷◌, ◌++◌, map, refl, ap, ◌∙◌, arith}
use Rattle.std.proofs.lemmas.List.Sums.{sum_by-cons, sum_by-append}
use Rattle.graphite_time.specs.declared.interval.Interval.{Interval}
use Rattle.graphite_time.specs.Interval.{start_of, end_of, holds}
use Rattle.graphite_time.specs.Life.{is_held, ComeAfter, IsLife}
use Rattle.graphite_time.proofs.LifeLemmas.{holds_before, holds-true}
use Rattle.graphite_part.specs.Counts.{covers_at}
use Rattle.graphite_text.specs.Graph.{is_alive}
use Rattle.graphite_text.specs.Spans.{as_span}

covers_at-cons : (span : Interval) (spans : List Interval) (t : ℕ) → covers_at (span ∷ spans) t ≡ cond (holds span t) 1 0 + covers_at spans t
covers_at-cons span spans t = sum_by-cons (λ over. cond (holds over t) 1 0) span spans

pub covers_at-append : (xs ys : List Interval) (t : ℕ) → covers_at (xs ++ ys) t ≡ covers_at xs t + covers_at ys t
covers_at-append xs ys t = sum_by-append (λ over. cond (holds over t) 1 0) xs ys

-- no lifespan after one holds an instant up to that one's end
covers_at-after : (before : Interval) (spans : List Interval) (t : ℕ) → ComeAfter before spans → t ≤ end_of before → covers_at spans t ≡ 0
covers_at-after before [] t after h = refl
covers_at-after before (span ∷ spans) t after h =
    let later : t < start_of span = omega arith in
    let none = holds_before span t later in
    let past : t ≤ end_of span = omega (arith, span.proper.0) in
    covers_at-cons span spans t ∙ rw none (omega (arith, covers_at-after span spans t after.1 past))

-- of the lifespans of a life one at most holds an instant
covers_at-first : (span : Interval) (spans : List Interval) (t : ℕ) (b : Bool) → holds span t ≡ b → ComeAfter span spans → covers_at spans t ≡ cond (is_held spans t) 1 0 → cond b 1 0 + covers_at spans t ≡ cond (b || is_held spans t) 1 0
covers_at-first span spans t true here after rest =
    let past : t ≤ end_of span = omega (arith, (holds-true span t here).1) in
    omega (arith, covers_at-after span spans t after past)
covers_at-first span spans t false here after rest = omega (arith, rest)

covers_at-spans : (span : Interval) (spans : List Interval) (t : ℕ) → ComeAfter span spans → covers_at (span ∷ spans) t ≡ cond (is_held (span ∷ spans) t) 1 0
covers_at-spans span [] t after = covers_at-cons span [] t ∙ covers_at-first span [] t (holds span t) refl after refl
covers_at-spans span (next ∷ spans) t after =
    covers_at-cons span (next ∷ spans) t ∙ covers_at-first span (next ∷ spans) t (holds span t) refl after (covers_at-spans next spans t after.1)

pub covers_at-life : (spans : List Interval) (t : ℕ) → IsLife spans → covers_at spans t ≡ cond (is_held spans t) 1 0
covers_at-life [] t life = absurd life
covers_at-life (span ∷ spans) t life = covers_at-spans span spans t life

pub is_alive-spans : (spans : List Interval) (t : ℕ) → is_alive (map as_span spans) t ≡ is_held spans t
is_alive-spans [] t = refl
is_alive-spans (span ∷ spans) t = ap (λ b. holds span t || b) (is_alive-spans spans t)
