-- Waiting.
use Rattle.std.proofs.Common.{◌≡◌, subst, ℕ, Bool, ◌<◌, ◌≤◌, IsTrue, arith, ⊎_elim}
use Rattle.std.proofs.lemmas.Bool.{cases_lt}
use Rattle.graphite_api.specs.Hop.{Waits}

module _ (alive : ℕ → ℕ → Bool) (v : ℕ) where
  -- who waits at an instant alone is alive then
  pub waits-here : (t : ℕ) → IsTrue (alive v t) → Waits alive v t t
  waits-here t lives = record { order = omega arith; lives = λ u low high. let same : t ≡ u = omega (arith, low, high) in subst (λ w. IsTrue (alive v w)) same lives }

  -- waiting goes on
  pub waits-through : (p q r : ℕ) → Waits alive v p q → Waits alive v q r → Waits alive v p r
  waits-through p q r first then = record {
    order = omega (arith, first.order, then.order);
    lives = λ t low high. ⊎_elim
        (λ (less : t < q). first.lives t low (omega (arith, less)))
        (λ (ge : q ≤ t). then.lives t ge high)
        (cases_lt t q);
  }

  -- a part of the time waited
  pub waits-part : (p q p' q' : ℕ) → p ≤ p' → p' ≤ q' → q' ≤ q → Waits alive v p q → Waits alive v p' q'
  waits-part p q p' q' low order high waits = record {
    order = order;
    lives = λ t from until. waits.lives t (omega (arith, low, from)) (omega (arith, high, until));
  }

  pub waits-first : (p q : ℕ) → Waits alive v p q → IsTrue (alive v p)
  waits-first p q waits = waits.lives p (omega arith) waits.order

  pub waits-last : (p q : ℕ) → Waits alive v p q → IsTrue (alive v q)
  waits-last p q waits = waits.lives q waits.order (omega arith)
