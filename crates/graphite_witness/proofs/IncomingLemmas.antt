-- Arcs in the order of their targets: the arcs into a vertex stand together, by edge.
use Rattle.std.proofs.Common.{◌≡◌, sym, ap, subst, ◌∙◌, ℕ, suc, ◌+◌, ◌-◌, ◌*◌, ◌^◌, ◌<◌, ◌≤◌, ◌==◌, false, List, [], ◌∷◌, length, take, drop, get_or, All, arith, inl, inr, ◌⊎◌, ⊎_elim}
use Rattle.std.specs.List.Sorted.{IsNonDecreasingBy}
use Rattle.std.proofs.Math.Nat.{suc-mul, mul-le-mul_right}
use Rattle.std.proofs.lemmas.Bool.{cases_lt, cases_order, false_from_ne_true, eq-eqb, eqb-true}
use Rattle.std.proofs.lemmas.Grind.{get_or_default_zero}
use Rattle.std.proofs.lemmas.List.{get_or-take, get_or-drop, length-take}
use Rattle.std.proofs.lemmas.List.Elements.{All-get_or}
use Rattle.graphite_time.specs.Interval.{start_of}
use Rattle.graphite_api.specs.declared.arc.Arc.{Arc}
use Rattle.graphite_api.proofs.TableLemmas.{filter-between}
use Rattle.graphite_witness.specs.ByTarget.{target_key, ComesBefore, AreByTarget, IsEntry, AreEntries}
use Rattle.graphite_witness.specs.Incoming.{arcs_into, ComesFirst, AreByEdge}

-- the order of numbers is that of their digits
by_digits : (base a b c d : ℕ) → d < base → a * base + b ≤ c * base + d → (a < c) ⊎ ((a ≡ c) × (b ≤ d))
by_digits base a b c d digit le = by (cases_order a c)
  where
    by : (a ≡ c) ⊎ ((a < c) ⊎ (c < a)) → (a < c) ⊎ ((a ≡ c) × (b ≤ d))
    by (inl same) = let e = ap (λ n. n * base) same in inr (same, omega (arith, e, le))
    by (inr (inl less)) = inl less
    by (inr (inr more)) =
        let above : suc c ≤ a = more in
        let least = mul-le-mul_right base above in
        absurd (omega (arith, le, digit, suc-mul c base, least))

-- so the order of the keys is that of targets, edges and starts
by_key : (x y : Arc) → y.edge < 2 ^ 32 → target_key x ≤ target_key y → ComesBefore x y
by_key x y edge le =
    ⊎_elim (λ (less : x.to * 2 ^ 32 + x.edge < y.to * 2 ^ 32 + y.edge). by_ends (omega (arith, less)) (λ same. absurd (omega (arith, less, same))))
    (λ (both : (x.to * 2 ^ 32 + x.edge ≡ y.to * 2 ^ 32 + y.edge) × (start_of x.over ≤ start_of y.over)). by_ends (omega (arith, both.0)) (λ same. both.1))
    (by_digits (2 ^ 64) (x.to * 2 ^ 32 + x.edge) (start_of x.over) (y.to * 2 ^ 32 + y.edge) (start_of y.over) (omega arith) le)
  where
    by_ends : x.to * 2 ^ 32 + x.edge ≤ y.to * 2 ^ 32 + y.edge → (x.to * 2 ^ 32 + x.edge ≡ y.to * 2 ^ 32 + y.edge → start_of x.over ≤ start_of y.over) → ComesBefore x y
    by_ends le start =
        ⊎_elim (λ (less : x.to < y.to). inl less)
        (λ (both : (x.to ≡ y.to) × (x.edge ≤ y.edge)). let to = both.0 in let upto = both.1 in inr (
          to,
          ⊎_elim
              (λ (less : x.edge < y.edge). inl less)
              (λ (ge : y.edge ≤ x.edge). let same : x.edge ≡ y.edge = omega (arith, upto, ge) in inr (same, start (omega (arith, to, same))))
              (cases_lt x.edge y.edge),
        ))
        (by_digits (2 ^ 32) x.to x.edge y.to y.edge edge le)

pub by_target : (arcs : List Arc) → All (λ arc. arc.edge < 2 ^ 32) arcs → IsNonDecreasingBy target_key arcs → AreByTarget arcs
by_target arcs edges rise = record {
  far = λ i j d less within. by_key (get_or arcs i d) (get_or arcs j d) (All-get_or (λ (arc : Arc). arc.edge < 2 ^ 32) arcs j d within edges) (rise i j d (omega arith) within);
}

pub rise_by_target : (arcs : List Arc) → AreByTarget arcs → IsNonDecreasingBy (λ arc. arc.to) arcs
rise_by_target arcs all i j d le within =
    ⊎_elim (λ (less : i < j). upto (get_or arcs i d) (get_or arcs j d) (all.far i j d less within))
    (λ (ge : j ≤ i). let same : i ≡ j = omega arith in omega (arith, ap (λ k. (get_or arcs k d).to) same))
    (cases_lt i j)
  where
    upto : (x y : Arc) → ComesBefore x y → x.to ≤ y.to
    upto x y (inl less) = omega (arith, less)
    upto x y (inr both) = let same = both.0 in omega (arith, same)

-- the arcs into a vertex start no later than those into the next one
pub entries_rise : (arcs : List Arc) (v p q : ℕ) → IsEntry arcs v p → IsEntry arcs (v + 1) q → p ≤ q
entries_rise [] v p q start end = omega (arith, start.within)
entries_rise (arc ∷ arcs) v p q start end =
    ⊎_elim (λ (early : q < p). absurd (omega (arith, start.within, start.before q arc (omega arith) early, end.after q arc (omega arith) (omega (arith, start.within, early)))))
    (λ h. h) (cases_lt q p)

-- an entry that is read from the list
pub entry_read : (arcs : List Arc) (n : ℕ) (starts : List ℕ) (v d : ℕ) → AreEntries arcs n starts → v ≤ n → IsEntry arcs v (get_or starts v d)
entry_read arcs n starts v d all le =
    let within : v < length starts = omega (arith, all.len) in
    subst (IsEntry arcs v) (sym (get_or_default_zero starts v d within)) (all.start v le)

module _ (arcs : List Arc) (v p q : ℕ) (start : IsEntry arcs v p) (end : IsEntry arcs (v + 1) q) where
  into : (k : ℕ) (d : Arc) → p ≤ k → k < q → (get_or arcs k d).to ≡ v
  into k d low high = omega (arith, start.after k d low (omega (arith, end.within, high)), end.before k d (omega arith) high)

  -- between two entries stand the arcs into a vertex
  pub arcs_into-between : take (q - p) (drop p arcs) ≡ arcs_into arcs v
  arcs_into-between =
      filter-between (λ arc. arc.to == v) arcs p q (entries_rise arcs v p q start end) end.within
      (λ k d low high. other (get_or arcs k d) (λ e. omega (arith, e, start.before k d low high)))
      (λ k d low high. eq-eqb _ _ (into k d low high))
      (λ k d low high. other (get_or arcs k d) (λ e. omega (arith, e, end.after k d low high)))
    where
      other : (arc : Arc) → (arc.to ≡ v → ⊥) → (arc.to == v) ≡ false
      other arc differs = false_from_ne_true _ (λ e. differs (eqb-true _ _ e))

  -- and they go by their edges
  pub into-by_edge : AreByTarget arcs → AreByEdge (take (q - p) (drop p arcs))
  into-by_edge all i j d less within =
      let inside : j < q - p = omega (arith, length-take (q - p) (drop p arcs)) in
      let both : ComesFirst (get_or arcs (p + i) d) (get_or arcs (p + j) d) =
      first (get_or arcs (p + i) d) (get_or arcs (p + j) d) (into (p + i) d (omega arith) (omega arith)) (into (p + j) d (omega arith) (omega arith)) (all.far (p + i) (p + j) d (omega arith) (omega (arith, end.within)))
      in
      subst (λ x. ComesFirst x (get_or (take (q - p) (drop p arcs)) j d)) (sym (read i (omega arith))) (subst (ComesFirst (get_or arcs (p + i) d)) (sym (read j inside)) both)
    where
      read : (k : ℕ) → k < q - p → get_or (take (q - p) (drop p arcs)) k d ≡ get_or arcs (p + k) d
      read k below = get_or-take (q - p) (drop p arcs) k d below ∙ get_or-drop p arcs k d

      first : (x y : Arc) → x.to ≡ v → y.to ≡ v → ComesBefore x y → ComesFirst x y
      first x y here there (inl less) = absurd (omega (arith, here, there, less))
      first x y here there (inr both) = both.1
