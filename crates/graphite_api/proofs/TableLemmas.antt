-- The arcs out of a vertex stand together in a list that is in the order of the sources.
use Rattle.std.proofs.Common.{◌≡◌, ◌∙◌, sym, ap, refl, subst, ℕ, zero, suc, ◌+◌, ◌-◌, ◌<◌, ◌≤◌, ◌==◌, Bool, true, false, List, [], ◌∷◌, length, take, drop, filter, get_or, arith, ⊎_elim, Ordering}
use Rattle.std.specs.declared.cmp.Ordering.TheVariants.{Less}
use Rattle.std.proofs.lemmas.Grind.{get_or_default_zero}
use Rattle.std.proofs.lemmas.Bool.{cond-true, cond-false, cases_lt, false_from_ne_true, eq-eqb, eqb-true, lt-ltb}
use Rattle.std.specs.List.{AllWithin}
use Rattle.std.specs.Cmp.{IsTotalOrder, on_total, then_total, nat_cmp_total}
use Rattle.std.proofs.lemmas.List.MinMax.{ranks_by}
use Rattle.std.proofs.lemmas.List.Sorted.{sorted_far}
use Rattle.std.specs.List.Sorted.{IsNonDecreasingBy, IsSorted}
use Rattle.std.specs.Ordering.{is_lt, nat_cmp, ordering_then}
use Rattle.graphite_time.specs.declared.interval.Interval.{Interval}
use Rattle.graphite_api.specs.declared.arc.Arc.{Arc}
use Rattle.graphite_api.specs.ArcOrder.{interval_order, arc_order}
use Rattle.graphite_api.specs.Table.{arcs_out, IsStart, AreStarts}

-- what passes a test stands from p up to q, and nothing else passes it
pub filter-between : {X : Type 0} (test : X → Bool) (xs : List X) (p q : ℕ) → p ≤ q → q ≤ length xs → AllWithin (λ x. test x ≡ false) xs 0 p → AllWithin (λ x. test x ≡ true) xs p q → AllWithin (λ x. test x ≡ false) xs q (length xs) → take (q - p) (drop p xs) ≡ filter test xs
filter-between test [] zero zero order within before here after = refl
filter-between test [] zero (suc q) order within before here after = absurd (omega arith)
filter-between test [] (suc p) q order within before here after = absurd (omega arith)
filter-between test (x ∷ xs) zero zero order within before here after =
    let rest = filter-between test xs 0 0 (omega arith) (omega arith) (λ k d low high. absurd (omega arith)) (λ k d low high. absurd (omega arith)) (λ k d low high. after (suc k) d (omega arith) (omega arith)) in
    rest ∙ sym (cond-false _ _ _ (after 0 x (omega arith) (omega arith)))
filter-between test (x ∷ xs) zero (suc q) order within before here after =
    let rest = filter-between test xs 0 q (omega arith) (omega arith) (λ k d low high. absurd (omega arith)) (λ k d low high. here (suc k) d (omega arith) (omega arith)) (λ k d low high. after (suc k) d (omega arith) (omega arith)) in
    let all : suc q - 0 ≡ suc (q - 0) = omega arith in
    ap (λ n. take n (x ∷ xs)) all ∙ ap (λ ys. x ∷ ys) rest ∙ sym (cond-true _ _ _ (here 0 x (omega arith) (omega arith)))
filter-between test (x ∷ xs) (suc p) zero order within before here after = absurd (omega arith)
filter-between test (x ∷ xs) (suc p) (suc q) order within before here after =
    let rest = filter-between test xs p q (omega arith) (omega arith) (λ k d low high. before (suc k) d (omega arith) (omega arith)) (λ k d low high. here (suc k) d (omega arith) (omega arith)) (λ k d low high. after (suc k) d (omega arith) (omega arith)) in
    let less : suc q - suc p ≡ q - p = omega arith in
    ap (λ n. take n (drop p xs)) less ∙ rest ∙ sym (cond-false _ _ _ (before 0 x (omega arith) (omega arith)))

-- the arcs out of a vertex start no later than those out of the next one
pub starts_rise : (arcs : List Arc) (v p q : ℕ) → IsStart arcs v p → IsStart arcs (v + 1) q → p ≤ q
starts_rise [] v p q start end = omega (arith, start.within)
starts_rise (arc ∷ arcs) v p q start end =
    ⊎_elim (λ (early : q < p). absurd (omega (arith, start.within, start.before q arc (omega arith) early, end.after q arc (omega arith) (omega (arith, start.within, early)))))
    (λ h. h) (cases_lt q p)

pub arcs_out-between : (arcs : List Arc) (v p q : ℕ) → IsStart arcs v p → IsStart arcs (v + 1) q → take (q - p) (drop p arcs) ≡ arcs_out arcs v
arcs_out-between arcs v p q start end =
    filter-between (λ arc. arc.from == v) arcs p q (starts_rise arcs v p q start end) end.within
    (λ k d low high. other (get_or arcs k d) (λ e. omega (arith, e, start.before k d low high)))
    (λ k d low high. eq-eqb _ _ (omega (arith, start.after k d low (omega (arith, end.within, high)), end.before k d (omega arith) high)))
    (λ k d low high. other (get_or arcs k d) (λ e. omega (arith, e, end.after k d low high)))
  where
    other : (arc : Arc) → (arc.from ≡ v → ⊥) → (arc.from == v) ≡ false
    other arc differs = false_from_ne_true _ (λ e. differs (eqb-true _ _ e))

-- the order of arcs is total
interval_total : IsTotalOrder interval_order
interval_total =
    then_total (on_total (λ (x : Interval). x.a) nat_cmp_total) (on_total (λ (x : Interval). x.b) nat_cmp_total)

pub arc_total : IsTotalOrder arc_order
arc_total =
    then_total (on_total (λ (x : Arc). x.from) nat_cmp_total)
    (then_total (on_total (λ (x : Arc). x.edge) nat_cmp_total)
    (then_total (on_total (λ (x : Arc). x.over) interval_total)
    (then_total (on_total (λ (x : Arc). x.to) nat_cmp_total)
    (then_total (on_total (λ (x : Arc). x.time) nat_cmp_total)
    (then_total (on_total (λ (x : Arc). x.cost) nat_cmp_total)
    (on_total (λ (x : Arc). x.stay) interval_total))))))

-- sorted arcs go by their sources
by_source : (x y : Arc) → is_lt (arc_order y x) ≡ false → x.from ≤ y.from
by_source x y h =
    ⊎_elim (λ (less : y.from < x.from). absurd (true_is_not (sym (lt_first _ (nat_cmp y.from x.from) (cond-true _ _ _ (lt-ltb _ _ less))) ∙ h)))
    (λ le. le) (cases_lt y.from x.from)
  where
    lt_first : (p o : Ordering) → o ≡ Less → is_lt (ordering_then o p) ≡ true
    lt_first p o e = ap (λ q. is_lt (ordering_then q p)) e

    true_is_not : true ≡ false → ⊥
    true_is_not e = cc

pub rise_by_source : (arcs : List Arc) → IsSorted arc_order arcs → IsNonDecreasingBy (λ arc. arc.from) arcs
rise_by_source arcs rises =
    λ i j d le within. by_source (get_or arcs i d) (get_or arcs j d) (sorted_far (λ x y. is_lt (arc_order x y)) (ranks_by arc_total (λ x. x)) arcs rises i j d le within)

-- a start that is read from the list
pub start_read : (arcs : List Arc) (n : ℕ) (starts : List ℕ) (v d : ℕ) → AreStarts arcs n starts → v ≤ n → IsStart arcs v (get_or starts v d)
start_read arcs n starts v d all le =
    let within : v < length starts = omega (arith, all.len) in
    subst (IsStart arcs v) (sym (get_or_default_zero starts v d within)) (all.start v le)
