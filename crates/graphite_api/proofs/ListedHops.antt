-- The best values of a world whose hops stand in a list, by computing.
use Rattle.std.proofs.Common.{◌≡◌, refl, ap, ◌∙◌, ℕ, zero, suc, ◌<◌, ◌≤◌, ◌==◌, ◌&&◌, Bool, true, false, IsTrue, List, filter_map, Option, None, Some, option_map, nat_le, nat_lt, arith, inl, inr, ◌⊎◌}
use Rattle.std.specs.List.{Contains}
use Rattle.std.proofs.lemmas.Option.{none-some, same_Some}
use Rattle.std.proofs.lemmas.Bool.{and_parts, and_from, eqb-true, eq-eqb, leb-true, le-leb, ltb-true, lt-ltb}
use Rattle.graphite_api.specs.Hop.{Hop, arrival, Waits}
use Rattle.graphite_api.specs.Values.{Values, AreLawful, best_of}
use Rattle.graphite_api.specs.Attained.{IsBestAttained}
use Rattle.graphite_api.proofs.BestLemmas.{IsBest-same}
use Rattle.graphite_api.proofs.MemberLemmas.{Contains-filter_map, filter_map-Contains}
use Rattle.graphite_api.proofs.ValuesLemmas.{best_of_is_best}
use Rattle.graphite_api.proofs.ListLemmas.{nothing_within_none, start_within_one, last_hop}
use Rattle.graphite_api.specs.Attained.{IsOneMore}
use Rattle.graphite_api.proofs.WaitLemmas.{waits-first, waits-last}

-- each vertex v is alive from the instant `born v` until the instant `dies v`, which it no longer is
abbrev pub alive_between : (born dies : ℕ → ℕ) → ℕ → ℕ → Bool
alive_between born dies v t = nat_le (born v) t && nat_lt t (dies v)

-- so it waits where it is not dead before the end
abbrev pub waits_between : (born dies : ℕ → ℕ) → ℕ → ℕ → ℕ → Bool
waits_between born dies v p q = nat_le (born v) p && (nat_le p q && nat_lt q (dies v))

pub waits_between-Waits : (born dies : ℕ → ℕ) (v p q : ℕ) → waits_between born dies v p q ≡ true → Waits (alive_between born dies) v p q
waits_between-Waits born dies v p q test =
    let outer = and_parts _ _ test in
    let inner = and_parts _ _ outer.1 in
    let begun : born v ≤ p = leb-true _ _ outer.0 in
    let ends : q < dies v = ltb-true _ _ inner.1 in
    record {
      order = leb-true _ _ inner.0;
      lives = λ t low high. and_from _ _ (le-leb (born v) t (omega (arith, begun, low))) (lt-ltb t (dies v) (omega (arith, ends, high)));
    }

pub Waits-waits_between : (born dies : ℕ → ℕ) (v p q : ℕ) → Waits (alive_between born dies) v p q → waits_between born dies v p q ≡ true
Waits-waits_between born dies v p q waits =
    and_from _ _ (and_parts _ _ (waits-first (alive_between born dies) v p q waits)).0
    (and_from _ _ (le-leb _ _ waits.order) (and_parts _ _ (waits-last (alive_between born dies) v p q waits)).1)

-- what the best values where and when hops depart bring by a hop to v at t, if it is used there
abbrev pub brought_if : Values → (ℕ → ℕ → Option ℕ) → Hop → Bool → Option ℕ
brought_if values best hop false = None
brought_if values best hop true = option_map (λ y. values.extend y hop.depart hop.time hop.cost) (best hop.from hop.depart)

-- it is, where it leads to v, which waits from its arrival to t
abbrev pub brought : Values → (ℕ → ℕ → ℕ → Bool) → (ℕ → ℕ → Option ℕ) → (v t : ℕ) → Hop → Option ℕ
brought values waits best v t hop = brought_if values best hop ((hop.to == v) && waits v (arrival hop) t)

-- the best value of the lists of fewer than k of the hops
abbrev pub best_by : Values → (ℕ → ℕ → ℕ → Bool) → List Hop → (ℕ → ℕ → Option ℕ) → (k v t : ℕ) → Option ℕ
best_by values waits hops start zero v t = None
best_by values waits hops start (suc zero) v t = start v t
best_by values waits hops start (suc (suc k)) v t =
    best_of values.good (best_by values waits hops start (suc k) v t) (filter_map (brought values waits (best_by values waits hops start (suc k)) v t) hops)

module _ (values : Values) (best : ℕ → ℕ → Option ℕ) (hop : Hop) where
  pub brought_if-is : (test : Bool) (x : ℕ) → brought_if values best hop test ≡ Some x → (test ≡ true) × ((y : ℕ) × (best hop.from hop.depart ≡ Some y) × (values.extend y hop.depart hop.time hop.cost ≡ x))
  brought_if-is false x is = absurd (none-some x is)
  brought_if-is true x is = (refl, by (best hop.from hop.depart) refl is)
    where
      by : (o : Option ℕ) → best hop.from hop.depart ≡ o → option_map (λ y. values.extend y hop.depart hop.time hop.cost) o ≡ Some x → (y : ℕ) × (best hop.from hop.depart ≡ Some y) × (values.extend y hop.depart hop.time hop.cost ≡ x)
      by None e is = absurd (none-some x is)
      by (Some y) e is = (y, e, same_Some _ x is)

  pub brought_if-some : (test : Bool) (x y : ℕ) → test ≡ true → best hop.from hop.depart ≡ Some y → values.extend y hop.depart hop.time hop.cost ≡ x → brought_if values best hop test ≡ Some x
  brought_if-some test x y pass some is =
      ap (brought_if values best hop) pass ∙ ap (option_map (λ y. values.extend y hop.depart hop.time hop.cost)) some ∙ ap Some is

-- what a test of waiting decides
pub record Decides (alive : ℕ → ℕ → Bool) (waits : ℕ → ℕ → ℕ → Bool) : Type 0 where
  pub right : (v p q : ℕ) → waits v p q ≡ true → Waits alive v p q
  pub all : (v p q : ℕ) → Waits alive v p q → waits v p q ≡ true

pub waits_between_decides : (born dies : ℕ → ℕ) → Decides (alive_between born dies) (waits_between born dies)
waits_between_decides born dies = record { right = waits_between-Waits born dies; all = Waits-waits_between born dies }

module _ (values : Values) (lawful : AreLawful values) (alive : ℕ → ℕ → Bool) (waits : ℕ → ℕ → ℕ → Bool) (decides : Decides alive waits) (hops : List Hop) where
  -- what hops bring is what one more hop brings
  pub brought-IsOneMore : (best : ℕ → ℕ → Option ℕ) (v t x : ℕ) → (best v t ≡ Some x) ⊎ Contains (filter_map (brought values waits best v t) hops) x → IsOneMore values alive (Contains hops) best v t x
  brought-IsOneMore best v t x (inl is) = inl is
  brought-IsOneMore best v t x (inr among) =
      let found = filter_map-Contains (brought values waits best v t) hops x among in
      let hop : Hop = found.0 in
      let used = brought_if-is values best hop ((hop.to == v) && waits v (arrival hop) t) x found.2 in
      let tests = and_parts (hop.to == v) (waits v (arrival hop) t) used.0 in
      inr (hop, found.1, eqb-true hop.to v tests.0, decides.right v (arrival hop) t tests.1, used.1)

  pub IsOneMore-brought : (best : ℕ → ℕ → Option ℕ) (v t x : ℕ) → IsOneMore values alive (Contains hops) best v t x → (best v t ≡ Some x) ⊎ Contains (filter_map (brought values waits best v t) hops) x
  IsOneMore-brought best v t x (inl is) = inl is
  IsOneMore-brought best v t x (inr h) =
      let hop : Hop = h.0 in
      let pass = and_from (hop.to == v) (waits v (arrival hop) t) (eq-eqb hop.to v h.2) (decides.all v (arrival hop) t h.3) in
      inr (Contains-filter_map (brought values waits best v t) hops hop x h.1 (brought_if-some values best hop ((hop.to == v) && waits v (arrival hop) t) x h.4.0 pass h.4.1 h.4.2))

  -- what is computed is the best value of the lists of fewer than k hops
  pub best_by_is_best : (start : ℕ → ℕ → Option ℕ) (k v t : ℕ) → IsBestAttained values alive (Contains hops) start k v t (best_by values waits hops start k v t)
  best_by_is_best start zero v t = nothing_within_none values lawful alive (Contains hops) start v t
  best_by_is_best start (suc zero) v t = start_within_one values lawful alive (Contains hops) start v t
  best_by_is_best start (suc (suc k)) v t =
      last_hop values lawful alive (Contains hops) start best (suc k) (omega arith) (best_by_is_best start (suc k)) v t now
      (IsBest-same (λ x y. IsTrue (values.good x y)) (λ x. (best v t ≡ Some x) ⊎ Contains (filter_map (brought values waits best v t) hops) x) (IsOneMore values alive (Contains hops) best v t) now
      (brought-IsOneMore best v t) (IsOneMore-brought best v t)
      (best_of_is_best values lawful (best v t) (filter_map (brought values waits best v t) hops)))
    where
      best : ℕ → ℕ → Option ℕ
      best = best_by values waits hops start (suc k)

      now : Option ℕ
      now = best_by values waits hops start (suc (suc k)) v t
