-- Lists of fewer hops than there are lifespans are enough: for each list there is one that leads to the same place with a
-- value as good, and visits no lifespan twice. A way from a lifespan back to it is replaced by waiting, since no hop makes a
-- value better.
use Rattle.std.proofs.Common.{◌≡◌, refl, sym, subst, ℕ, ◌<◌, ◌≤◌, Bool, true, false, IsTrue, List, [], ◌∷◌, length, map, Option, arith, ⊎_elim}
use Rattle.std.specs.List.{list_any, IsDistinct, AllByRecursion}
use Rattle.std.proofs.Math.Dec.{eqb}
use Rattle.std.proofs.lemmas.Bool.{false≢true, or_parts, or_cases, eqb-true}
use Rattle.std.proofs.lemmas.List.{length-map}
use Rattle.std.proofs.lemmas.Map.Keys.{IsDistinct-cons, IsDistinct-tail}
use Rattle.std.proofs.lemmas.Map.Steps.{length-le_from_distinct_below}
use Rattle.graphite_time.specs.declared.interval.Interval.{Interval}
use Rattle.graphite_api.specs.Attained.{Attains, IsAttainedWithin, IsBestAttained, IsBestOfLists}
use Rattle.graphite_api.specs.Hop.{Hop, arrival, Waits}
use Rattle.graphite_api.specs.Search.{IsJourneySearch}
use Rattle.graphite_api.specs.Table.{vertex_is_alive}
use Rattle.graphite_api.specs.TableHops.{lifespans}
use Rattle.graphite_api.specs.Values.{Values}
use Rattle.graphite_api.proofs.BestLemmas.{IsBest-other, IsBest-part}
use Rattle.graphite_api.proofs.LifespanLemmas.{lifespan_number, lifespan_number-below, one_vertex, one_lifespan}
use Rattle.graphite_api.proofs.WaitLemmas.{waits-through, waits-last}

-- what no element of a list is equal to differs from each of them
none_equal : (n : ℕ) (ns : List ℕ) → list_any (eqb n) ns ≡ false → AllByRecursion (λ m. eqb n m ≡ false) ns
none_equal n [] none = tt
none_equal n (m ∷ ns) none =
    let parts = or_parts (eqb n m) (list_any (eqb n) ns) none in
    (parts.0, none_equal n ns parts.1)

-- the lifespans that a list of hops departs from
abbrev departed : List (List Interval) → List Hop → List ℕ
departed lives hops = map (λ (hop : Hop). lifespan_number lives hop.from hop.depart) hops

IsDistinct-one : (n : ℕ) → IsDistinct eqb (n ∷ [])
unfolding IsDistinct
IsDistinct-one n = (tt, tt)

module _ (values : Values) (lives : List (List Interval)) (IsHop : Hop → Type 0) (start : ℕ → ℕ → Option ℕ) (search : IsJourneySearch values lives IsHop start) where
  abbrev Leads : List Hop → (v t x : ℕ) → Type 0
  Leads hops v t x = Attains values (vertex_is_alive lives) IsHop start hops v t x

  -- a list leads to where a vertex is alive, with a value that can stand there
  pub leads-alive : (hops : List Hop) (v t x : ℕ) → Leads hops v t x → IsTrue (vertex_is_alive lives v t)
  leads-alive [] v t x leads = search.alive v t x leads
  leads-alive (hop ∷ hops) v t x leads = waits-last (vertex_is_alive lives) v (arrival hop) t leads.2

  pub leads-stands : (hops : List Hop) (v t x : ℕ) → Leads hops v t x → IsTrue (values.stands x t)
  leads-stands [] v t x leads = search.stands v t x leads
  leads-stands (hop ∷ hops) v t x leads =
      let y = leads.3.0 in
      let before = leads-stands hops hop.from hop.depart y leads.3.1 in
      let there = search.lawful.arrives y hop.depart hop.time hop.cost (search.takes_time hop leads.0) before in
      subst (λ z. IsTrue (values.stands z t)) leads.3.2
      (search.lawful.later (values.extend y hop.depart hop.time hop.cost) (arrival hop) t there leads.2.order)

  -- who waits there finds a value that is as good
  wait_on : (hops : List Hop) (v p q x : ℕ) → Leads hops v p x → Waits (vertex_is_alive lives) v p q → (y : ℕ) × Leads hops v q y × IsTrue (values.good y x)
  wait_on [] v p q x leads waits = search.kept v p q x waits leads
  wait_on (hop ∷ hops) v p q x leads waits = (
    x,
    (leads.0, leads.1, waits-through (vertex_is_alive lives) v (arrival hop) p q leads.2 waits, leads.3),
    search.lawful.itself x,
  )

  -- no lifespan is visited twice: neither the last one nor those departed from
  abbrev VisitsOnce : List Hop → (v t : ℕ) → Type 0
  VisitsOnce hops v t = IsDistinct eqb (lifespan_number lives v t ∷ departed lives hops)

  -- a list that leads to a lifespan no later than the instant t, with a value as good as x, and visits none twice
  record Cut (number t x : ℕ) : Type 0 where
    hops : List Hop
    vertex : ℕ
    instant : ℕ
    value : ℕ
    leads : Leads hops vertex instant value
    there : lifespan_number lives vertex instant ≡ number
    order : instant ≤ t
    good : IsTrue (values.good value x)
    once : VisitsOnce hops vertex instant

  uncut : (number : ℕ) (hops : List Hop) (v t x : ℕ) → Leads hops v t x → VisitsOnce hops v t → eqb number (lifespan_number lives v t) ≡ true → Cut number t x
  uncut number hops v t x leads once here = record {
    hops = hops;
    vertex = v;
    instant = t;
    value = x;
    leads = leads;
    there = sym (eqb-true _ _ here);
    order = omega arith;
    good = search.lawful.itself x;
    once = once;
  }

  -- what is cut back to before a hop is as good as what that leads to
  cut_hop : (number : ℕ) (hop : Hop) (hops : List Hop) (v t x : ℕ) (leads : Leads (hop ∷ hops) v t x) → Cut number hop.depart leads.3.0 → Cut number t x
  cut_hop number hop hops v t x leads cut =
      let y = leads.3.0 in
      let loss = search.lawful.no_gain y hop.depart hop.time hop.cost (search.takes_time hop leads.0) (leads-stands hops hop.from hop.depart y leads.3.1) in
      let worse : IsTrue (values.good y x) = subst (λ z. IsTrue (values.good y z)) leads.3.2 loss in
      let waited : arrival hop ≤ t = leads.2.order in
      let before : cut.instant ≤ hop.depart = cut.order in
      record {
        hops = cut.hops;
        vertex = cut.vertex;
        instant = cut.instant;
        value = cut.value;
        leads = cut.leads;
        there = cut.there;
        order = omega arith;
        good = search.lawful.through cut.value y x cut.good worse;
        once = cut.once;
      }

  -- a list is cut back to where it visits a lifespan
  cut_back : (number : ℕ) (hops : List Hop) (v t x : ℕ) → Leads hops v t x → VisitsOnce hops v t → list_any (eqb number) (lifespan_number lives v t ∷ departed lives hops) ≡ true → Cut number t x
  cut_back number [] v t x leads once among =
      ⊎_elim (λ here. uncut number [] v t x leads once here)
      (λ none. absurd (false≢true none))
      (or_cases (eqb number (lifespan_number lives v t)) false among)
  cut_back number (hop ∷ hops) v t x leads once among =
      ⊎_elim (λ here. uncut number (hop ∷ hops) v t x leads once here)
      (λ earlier. cut_hop number hop hops v t x leads (cut_back number hops hop.from hop.depart leads.3.0 leads.3.1 (IsDistinct-tail eqb _ _ once) earlier))
      (or_cases (eqb number (lifespan_number lives v t)) (list_any (eqb number) (departed lives (hop ∷ hops))) among)

  -- a list that leads to v at t with a value as good as x, and visits no lifespan twice
  record Straight (v t x : ℕ) : Type 0 where
    hops : List Hop
    value : ℕ
    leads : Leads hops v t value
    good : IsTrue (values.good value x)
    once : VisitsOnce hops v t

  -- from where a list is cut back to the lifespan of v at t, v waits to t
  wait_instead : (v t x : ℕ) → IsTrue (vertex_is_alive lives v t) → Cut (lifespan_number lives v t) t x → Straight v t x
  wait_instead v t x alive cut =
      let alive_there = leads-alive cut.hops cut.vertex cut.instant cut.value cut.leads in
      let same = one_vertex lives cut.vertex v cut.instant t alive_there alive cut.there in
      let leads = subst (λ w. Leads cut.hops w cut.instant cut.value) same cut.leads in
      let there = subst (λ w. lifespan_number lives w cut.instant ≡ lifespan_number lives v t) same cut.there in
      let waits : Waits (vertex_is_alive lives) v cut.instant t = record {
        order = cut.order;
        lives = one_lifespan lives v cut.instant t (leads-alive cut.hops v cut.instant cut.value leads) alive there;
      } in
      let on = wait_on cut.hops v cut.instant t cut.value leads waits in
      record {
        hops = cut.hops;
        value = on.0;
        leads = on.1;
        good = search.lawful.through on.0 cut.value x on.2 cut.good;
        once = subst (λ n. IsDistinct eqb (n ∷ departed lives cut.hops)) cut.there cut.once;
      }

  -- with one more hop a list still visits no lifespan twice, or is cut back
  hop_on : (hop : Hop) (hops : List Hop) (v t x : ℕ) → Leads (hop ∷ hops) v t x → VisitsOnce hops hop.from hop.depart → Straight v t x
  hop_on hop hops v t x leads once = by (list_any (eqb (lifespan_number lives v t)) (departed lives (hop ∷ hops))) refl
    where
      by : (b : Bool) → list_any (eqb (lifespan_number lives v t)) (departed lives (hop ∷ hops)) ≡ b → Straight v t x
      by true among =
          let cut = cut_back (lifespan_number lives v t) hops hop.from hop.depart leads.3.0 leads.3.1 once among in
          wait_instead v t x (leads-alive (hop ∷ hops) v t x leads) (cut_hop (lifespan_number lives v t) hop hops v t x leads cut)
      by false none = record {
        hops = hop ∷ hops;
        value = x;
        leads = leads;
        good = search.lawful.itself x;
        once = IsDistinct-cons eqb (lifespan_number lives v t) (departed lives (hop ∷ hops)) (none_equal (lifespan_number lives v t) (departed lives (hop ∷ hops)) none) once;
      }

  -- for each list there is one as good that visits no lifespan twice
  straighten : (hops : List Hop) (v t x : ℕ) → Leads hops v t x → Straight v t x
  straighten [] v t x leads = record { hops = []; value = x; leads = leads; good = search.lawful.itself x; once = IsDistinct-one _ }
  straighten (hop ∷ hops) v t x leads =
      let y = leads.3.0 in
      let before = straighten hops hop.from hop.depart y leads.3.1 in
      let value = values.extend before.value hop.depart hop.time hop.cost in
      let rise = search.lawful.rises before.value y hop.depart hop.time hop.cost before.good in
      let risen : IsTrue (values.good value x) = subst (λ z. IsTrue (values.good value z)) leads.3.2 rise in
      let after = hop_on hop before.hops v t value (leads.0, leads.1, leads.2, (before.value, before.leads, refl)) before.once in
      record {
        hops = after.hops;
        value = after.value;
        leads = after.leads;
        good = search.lawful.through after.value value x after.good risen;
        once = after.once;
      }

  -- the numbers that a list visits are those of lifespans
  visited_here : (hops : List Hop) (v t x number : ℕ) → Leads hops v t x → eqb number (lifespan_number lives v t) ≡ true → number < lifespans lives
  visited_here hops v t x number leads here =
      subst (λ n. n < lifespans lives) (sym (eqb-true _ _ here)) (lifespan_number-below lives v t (leads-alive hops v t x leads))

  visited-below : (hops : List Hop) (v t x number : ℕ) → Leads hops v t x → list_any (eqb number) (lifespan_number lives v t ∷ departed lives hops) ≡ true → number < lifespans lives
  visited-below [] v t x number leads among =
      ⊎_elim (λ here. visited_here [] v t x number leads here)
      (λ none. absurd (false≢true none))
      (or_cases (eqb number (lifespan_number lives v t)) false among)
  visited-below (hop ∷ hops) v t x number leads among =
      ⊎_elim (λ here. visited_here (hop ∷ hops) v t x number leads here)
      (λ earlier. visited-below hops hop.from hop.depart leads.3.0 number leads.3.1 earlier)
      (or_cases (eqb number (lifespan_number lives v t)) (list_any (eqb number) (departed lives (hop ∷ hops))) among)

  -- lists of fewer hops than there are lifespans are enough
  pub enough : (hops : List Hop) (v t x : ℕ) → Leads hops v t x → (y : ℕ) × IsAttainedWithin values (vertex_is_alive lives) IsHop start (lifespans lives) v t y × IsTrue (values.good y x)
  enough hops v t x leads =
      let straight = straighten hops v t x leads in
      let within = length-le_from_distinct_below (lifespan_number lives v t ∷ departed lives straight.hops) (lifespans lives) straight.once (λ number among. visited-below straight.hops v t straight.value number straight.leads among) in
      let few : length straight.hops < lifespans lives = omega (arith, within, length-map straight.hops (λ (hop : Hop). lifespan_number lives hop.from hop.depart)) in
      (straight.value, (straight.hops, few, straight.leads), straight.good)

  -- so the best of them is the best of all lists
  pub best_of_lists : (v t : ℕ) (best : Option ℕ) → IsBestAttained values (vertex_is_alive lives) IsHop start (lifespans lives) v t best → IsBestOfLists values (vertex_is_alive lives) IsHop start v t best
  best_of_lists v t best is =
      IsBest-other (λ x y. IsTrue (values.good x y)) (λ x. (hops : List Hop) × Leads hops v t x)
      (IsAttainedWithin values (vertex_is_alive lives) IsHop start (lifespans lives) v t) best search.lawful.through
      (λ x within. (within.0, within.2))
      (λ x leads. enough leads.0 v t x leads.1) is

  longer : (more v t x : ℕ) → lifespans lives ≤ more → IsAttainedWithin values (vertex_is_alive lives) IsHop start (lifespans lives) v t x → IsAttainedWithin values (vertex_is_alive lives) IsHop start more v t x
  longer more v t x order within =
      let few : length within.0 < lifespans lives = within.1 in
      (within.0, omega arith, within.2)

  -- and the best of lists of more hops
  pub best_of_longer : (more v t : ℕ) (best : Option ℕ) → lifespans lives ≤ more → IsBestAttained values (vertex_is_alive lives) IsHop start (lifespans lives) v t best → IsBestAttained values (vertex_is_alive lives) IsHop start more v t best
  best_of_longer more v t best order is =
      IsBest-other (λ x y. IsTrue (values.good x y)) (IsAttainedWithin values (vertex_is_alive lives) IsHop start more v t)
      (IsAttainedWithin values (vertex_is_alive lives) IsHop start (lifespans lives) v t) best search.lawful.through
      (λ x within. longer more v t x order within)
      (λ x within. enough within.0 v t x within.2) is

  -- the other way round: the best of all lists is found among those that are enough
  pub best_is_enough : (more v t : ℕ) (best : Option ℕ) → lifespans lives ≤ more → IsBestOfLists values (vertex_is_alive lives) IsHop start v t best → IsBestAttained values (vertex_is_alive lives) IsHop start more v t best
  best_is_enough more v t best order is =
      IsBest-part (λ x y. IsTrue (values.good x y)) (λ x. (hops : List Hop) × Leads hops v t x)
      (IsAttainedWithin values (vertex_is_alive lives) IsHop start more v t) best search.lawful.one
      (λ x within. (within.0, within.2))
      (λ x leads. (let found = enough leads.0 v t x leads.1 in (found.0, longer more v t found.0 order found.1, found.2))) is
