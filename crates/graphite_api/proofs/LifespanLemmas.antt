-- The numbers of lifespans: each lifespan of each vertex has one of its own.
use Rattle.std.proofs.Common.{◌≡◌, refl, sym, ◌∙◌, ap, ℕ, zero, suc, ◌+◌, ◌<◌, ◌≤◌, Bool, true, false, ◌||◌, IsTrue, if◌then◌else◌, List, [], ◌∷◌, length, arith}
use Rattle.std.proofs.lemmas.Bool.{cond-true, cond-false, false≢true, or_right}
use Rattle.std.proofs.lemmas.List.Sums.{sum_by-cons}
use Rattle.graphite_time.specs.declared.interval.Interval.{Interval}
use Rattle.graphite_time.specs.Interval.{holds}
use Rattle.graphite_time.specs.Life.{is_held}
use Rattle.graphite_time.proofs.LifeLemmas.{holds-true, holds-from}
use Rattle.graphite_api.specs.Table.{vertex_is_alive}
use Rattle.graphite_api.specs.TableHops.{lifespans}

-- the place of the lifespan that holds the instant, among those of a vertex
abbrev place_held : List Interval → ℕ → ℕ
place_held [] t = 0
place_held (span ∷ spans) t = if holds span t then 0 else suc (place_held spans t)

-- the number of the lifespan in which a vertex is alive at an instant: those of one vertex stand after those of another
abbrev pub lifespan_number : List (List Interval) → (v t : ℕ) → ℕ
lifespan_number [] v t = 0
lifespan_number (life ∷ lives) zero t = place_held life t
lifespan_number (life ∷ lives) (suc v) t = length life + lifespan_number lives v t

place_held-below : (spans : List Interval) (t : ℕ) → is_held spans t ≡ true → place_held spans t < length spans
place_held-below [] t held = absurd (false≢true held)
place_held-below (span ∷ spans) t held = by (place_held-below spans t) (holds span t) refl
  where
    by : (is_held spans t ≡ true → place_held spans t < length spans) → (b : Bool) → holds span t ≡ b → place_held (span ∷ spans) t < suc (length spans)
    by rest true e = let here : place_held (span ∷ spans) t ≡ 0 = cond-true _ _ _ e in omega arith
    by rest false e =
        let later : place_held (span ∷ spans) t ≡ suc (place_held spans t) = cond-false _ _ _ e in
        omega (arith, rest (sym (ap (λ b. b || is_held spans t) e) ∙ held))

-- what one lifespan holds at two instants it holds between them
one_place : (spans : List Interval) (p q : ℕ) → is_held spans p ≡ true → is_held spans q ≡ true → place_held spans p ≡ place_held spans q → (t : ℕ) → p ≤ t → t ≤ q → is_held spans t ≡ true
one_place [] p q first last same t low high = absurd (false≢true first)
one_place (span ∷ spans) p q first last same t low high =
    by (λ at_p at_q places. one_place spans p q at_p at_q places t low high) (holds span p) (holds span q) refl refl
  where
    here : (s : ℕ) → holds span s ≡ true → place_held (span ∷ spans) s ≡ 0
    here s e = cond-true _ _ _ e

    later : (s : ℕ) → holds span s ≡ false → place_held (span ∷ spans) s ≡ suc (place_held spans s)
    later s e = cond-false _ _ _ e

    held_later : (s : ℕ) → holds span s ≡ false → is_held (span ∷ spans) s ≡ true → is_held spans s ≡ true
    held_later s e held = sym (ap (λ b. b || is_held spans s) e) ∙ held

    by : (is_held spans p ≡ true → is_held spans q ≡ true → place_held spans p ≡ place_held spans q → is_held spans t ≡ true) → (b c : Bool) → holds span p ≡ b → holds span q ≡ c → is_held (span ∷ spans) t ≡ true
    by rest true true e d =
        let from = holds-true span p e in
        let until = holds-true span q d in
        ap (λ b. b || is_held spans t) (holds-from span t (omega arith) (omega arith))
    by rest true false e d = absurd (omega (arith, here p e, later q d, same))
    by rest false true e d = absurd (omega (arith, later p e, here q d, same))
    by rest false false e d =
        or_right _ _ (rest (held_later p e first) (held_later q d last) (omega (arith, later p e, later q d, same)))

-- each number is below that of all lifespans
pub lifespan_number-below : (lives : List (List Interval)) (v t : ℕ) → IsTrue (vertex_is_alive lives v t) → lifespan_number lives v t < lifespans lives
lifespan_number-below [] v t alive = absurd (false≢true alive)
lifespan_number-below (life ∷ lives) zero t alive =
    omega (arith, sum_by-cons (λ (life : List Interval). length life) life lives, place_held-below life t alive)
lifespan_number-below (life ∷ lives) (suc v) t alive =
    omega (arith, sum_by-cons (λ (life : List Interval). length life) life lives, lifespan_number-below lives v t alive)

-- a number stands for one vertex
pub one_vertex : (lives : List (List Interval)) (u v p q : ℕ) → IsTrue (vertex_is_alive lives u p) → IsTrue (vertex_is_alive lives v q) → lifespan_number lives u p ≡ lifespan_number lives v q → u ≡ v
one_vertex [] u v p q first last same = absurd (false≢true first)
one_vertex (life ∷ lives) zero zero p q first last same = refl
one_vertex (life ∷ lives) zero (suc v) p q first last same = absurd (omega (arith, place_held-below life p first, same))
one_vertex (life ∷ lives) (suc u) zero p q first last same = absurd (omega (arith, place_held-below life q last, same))
one_vertex (life ∷ lives) (suc u) (suc v) p q first last same = ap suc (one_vertex lives u v p q first last (omega (arith, same)))

-- and for one lifespan of it
pub one_lifespan : (lives : List (List Interval)) (v p q : ℕ) → IsTrue (vertex_is_alive lives v p) → IsTrue (vertex_is_alive lives v q) → lifespan_number lives v p ≡ lifespan_number lives v q → (t : ℕ) → p ≤ t → t ≤ q → IsTrue (vertex_is_alive lives v t)
one_lifespan [] v p q first last same t low high = absurd (false≢true first)
one_lifespan (life ∷ lives) zero p q first last same t low high = one_place life p q first last same t low high
one_lifespan (life ∷ lives) (suc v) p q first last same t low high =
    one_lifespan lives v p q first last (omega (arith, same)) t low high
