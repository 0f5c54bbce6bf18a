-- What it is for a test to pass at each instant of a span.
use Rattle.std.proofs.Common.{◌≡◌, refl, ap, subst, ◌∙◌, ℕ, zero, suc, ◌+◌, ◌-◌, ◌<◌, ◌≤◌, arith, Bool, true, false, ◌&&◌, inl, inr}
use Rattle.std.proofs.lemmas.Bool.{false≢true}
use Rattle.std.proofs.Math.Nat.{eq-or-lt_of_le}
use Rattle.graphite_time.specs.declared.interval.Interval.{Interval}
use Rattle.graphite_time.specs.Interval.{holds}
use Rattle.graphite_time.proofs.LifeLemmas.{holds-true, holds-from}
use Rattle.graphite_text.specs.Reading.{at_each, throughout}
use Rattle.graphite_text.specs.Spans.{as_span}

first_of_two : (a b : Bool) → (a && b) ≡ true → a ≡ true
first_of_two true b e = refl
first_of_two false b e = e

second_of_two : (a b : Bool) → (a && b) ≡ true → b ≡ true
second_of_two true b e = e
second_of_two false b e = absurd (false≢true e)

both : (a b : Bool) → a ≡ true → b ≡ true → (a && b) ≡ true
both a b p q = ap (λ v. v && b) p ∙ q

pub at_each-true : (test : ℕ → Bool) (t n : ℕ) → at_each test t n ≡ true → (s : ℕ) → t ≤ s → s < t + n → test s ≡ true
at_each-true test t zero all s from until = absurd (omega arith)
at_each-true test t (suc n) all s from until =
    elim (eq-or-lt_of_le from) [
      | inl here ↦ subst (λ k. test k ≡ true) here (first_of_two (test t) (at_each test (t + 1) n) all)
      | inr later ↦ at_each-true test (t + 1) n (second_of_two (test t) (at_each test (t + 1) n) all) s (omega (arith, later)) (omega (arith, until))
    ]

pub at_each-from : (test : ℕ → Bool) (t n : ℕ) → ((s : ℕ) → t ≤ s → s < t + n → test s ≡ true) → at_each test t n ≡ true
at_each-from test t zero all = refl
at_each-from test t (suc n) all =
    both (test t) (at_each test (t + 1) n) (all t (omega arith) (omega arith)) (at_each-from test (t + 1) n (λ s from until. all s (omega arith) (omega arith)))

-- the test passes at each instant that the interval holds
pub throughout-true : (test : ℕ → Bool) (over : Interval) → throughout test (as_span over) ≡ true → (t : ℕ) → holds over t ≡ true → test t ≡ true
throughout-true test over all t inside =
    let bounds = holds-true over t inside in
    at_each-true test over.a (over.b - over.a) all t bounds.0 (omega (arith, bounds.1, over.proper.0))

pub throughout-from : (test : ℕ → Bool) (over : Interval) → ((t : ℕ) → holds over t ≡ true → test t ≡ true) → throughout test (as_span over) ≡ true
throughout-from test over all =
    at_each-from test over.a (over.b - over.a) (λ t from until. all t (holds-from over t from (omega (arith, until, over.proper.0))))
