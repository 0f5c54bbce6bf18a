-- A table of lives and arcs in the mirror of time: its hops are the mirrored hops, and every arrival is in one lifespan.
use Rattle.std.proofs.Common.{◌≡◌, refl, sym, ap, subst, ◌∙◌, ℕ, zero, suc, ◌+◌, ◌-◌, ◌<◌, ◌≤◌, arith, true, false, cond, ◌||◌, IsTrue, List, [], ◌∷◌, All, map, reverse, length, get_or, Option, Some, None, is_some, unwrap_or, option_map, ⊎_elim}
use Rattle.std.specs.List.{Contains}
use Rattle.std.proofs.lemmas.Bool.{cases_lt, cond-true, cond-false, false≢true, or_right}
use Rattle.std.proofs.lemmas.List.{length-map, get_or_past}
use Rattle.std.proofs.lemmas.List.Elements.{All-nil, All-cons, All-head, All-tail, All-map, All-weaker, All-get_or, All-contains, Contains-get_or}
use Rattle.graphite_time.specs.declared.TheConstants.{LAST}
use Rattle.graphite_time.specs.declared.interval.Interval.{Interval}
use Rattle.graphite_time.specs.Interval.{start_of, end_of, holds}
use Rattle.graphite_time.specs.Life.{is_held, lifespan_at, life_end, ComeAfter, IsLife}
use Rattle.graphite_time.specs.Meet.{interval_between}
use Rattle.graphite_time.specs.Mirror.{mirrored, mirrored_interval, mirrored_life}
use Rattle.graphite_time.proofs.LifeLemmas.{holds-true, holds-from, holds_after, is_some-lifespan_at, lifespan_at-holds, held_by_stay, starts_after, one_holds}
use Rattle.graphite_time.proofs.MeetLemmas.{interval_between-made}
use Rattle.graphite_time.proofs.MirrorLemmas.{mirrored_interval-ends, life_end-from_All, All-reverse, lifespan_at-mirrored, is_held-mirrored}
use Rattle.graphite_warp.specs.Sorted.{sorted}
use Rattle.graphite_api.specs.declared.arc.Arc.{Arc}
use Rattle.graphite_api.specs.ArcOrder.{arc_order}
use Rattle.graphite_api.specs.Hop.{Hop, arrival}
use Rattle.graphite_api.specs.Mirror.{mirrored_hop, AreMirrored}
use Rattle.graphite_api.specs.Table.{life_of, vertex_is_alive, IsArcOn, IsTable}
use Rattle.graphite_api.specs.TableHops.{hop_along, IsHopOn, StaysAt}
use Rattle.graphite_api.proofs.MemberLemmas.{Contains-map, Contains-sorted}
use Rattle.graphite_hops.specs.Mirror.{arrivals_of, source_stay, mirrored_arc}
use Rattle.graphite_hops.proofs.LinkLemmas.{All-sorted}

-- ---- a life

-- the lifespan that holds one instant is found at each other one that it holds
same_lifespan : (span : Interval) (spans : List Interval) (s t : ℕ) (stay : Interval) → ComeAfter span spans → lifespan_at (span ∷ spans) s ≡ Some stay → holds stay t ≡ true → lifespan_at (span ∷ spans) t ≡ Some stay
same_lifespan span [] s t stay after found inside =
    elim (holds span s) as (λ v. cond v (Some span) None ≡ Some stay → lifespan_at (span ∷ []) t ≡ Some stay) [
      | true ↦ λ e. (let same : span ≡ stay = cc in cond-true _ _ _ (ap (λ x. holds x t) same ∙ inside) ∙ ap Some same)
      | false ↦ λ e. cc
    ] found
same_lifespan span (next ∷ spans) s t stay after found inside =
    elim (holds span s) as (λ v. cond v (Some span) (lifespan_at (next ∷ spans) s) ≡ Some stay → lifespan_at (span ∷ next ∷ spans) t ≡ Some stay) [
      | true ↦ λ e. (let same : span ≡ stay = cc in cond-true _ _ _ (ap (λ x. holds x t) same ∙ inside) ∙ ap Some same)
      | false ↦ λ e. (let past : span.b ≤ t = omega (arith, starts_after span (next ∷ spans) s stay after e, (holds-true stay t inside).0) in
          cond-false _ _ _ (holds_after span t past) ∙ same_lifespan next spans s t stay after.1 e inside)
    ] found

one_lifespan : (spans : List Interval) (s t : ℕ) (stay : Interval) → IsLife spans → lifespan_at spans s ≡ Some stay → holds stay t ≡ true → lifespan_at spans t ≡ Some stay
one_lifespan [] s t stay life found inside = absurd life
one_lifespan (span ∷ spans) s t stay life found inside = same_lifespan span spans s t stay life found inside

-- lifespans that hold nothing from h on end by h, and the other way round
all_end_by : (h : ℕ) (spans : List Interval) → ((t : ℕ) → is_held spans t ≡ true → t < h) → All (λ span. end_of span ≤ h) spans
all_end_by h [] below = All-nil (λ span. end_of span ≤ h)
all_end_by h (span ∷ spans) below =
    let last : ℕ = end_of span - 1 in
    let held : is_held (span ∷ spans) last ≡ true = ap (λ b. b || is_held spans last) (holds-from span last (omega (arith, span.proper.0)) (omega (arith, span.proper.0))) in
    let ends : end_of span ≤ h = omega (arith, below last held) in
    All-cons (λ span. end_of span ≤ h) span spans ends (all_end_by h spans (λ t is. below t (or_right _ _ is)))

held_below : (h : ℕ) (spans : List Interval) (t : ℕ) → All (λ span. end_of span ≤ h) spans → is_held spans t ≡ true → t < h
held_below h [] t all held = absurd (false≢true held)
held_below h (span ∷ spans) t all held =
    elim (holds span t) as (λ v. holds span t ≡ v → (v || is_held spans t) ≡ true → t < h) [
      | true ↦ λ here e. omega (arith, (holds-true span t here).1, All-head (λ span. end_of span ≤ h) span spans all)
      | false ↦ λ not_here e. held_below h spans t (All-tail (λ span. end_of span ≤ h) span spans all) e
    ] refl held

all_end_in_mirror : (h : ℕ) (spans : List Interval) → h ≤ LAST → All (λ span. end_of span ≤ h) spans → All (λ span. end_of span ≤ h) (mirrored_life h spans)
all_end_in_mirror h spans last all =
    All-map (λ span. end_of span ≤ h) (mirrored_interval h) (reverse spans)
    (All-weaker (λ span. end_of span ≤ h) (λ span. end_of (mirrored_interval h span) ≤ h) (λ span within. omega (arith, (mirrored_interval-ends h span within last).1)) (reverse spans) (All-reverse (λ span. end_of span ≤ h) spans all))

-- ---- the lives of a table

pub life_ends_by : (h : ℕ) (lives : List (List Interval)) (v : ℕ) → ((t : ℕ) → IsTrue (vertex_is_alive lives v t) → t < h) → life_end (life_of lives v) ≤ h
life_ends_by h lives v below =
    life_end-from_All h 0 (life_of lives v) (omega arith) (all_end_by h (life_of lives v) below)

life_of-mirrored : (h : ℕ) (lives : List (List Interval)) (v : ℕ) → life_of (map (mirrored_life h) lives) v ≡ mirrored_life h (life_of lives v)
life_of-mirrored h [] v = refl
life_of-mirrored h (life ∷ lives) zero = refl
life_of-mirrored h (life ∷ lives) (suc v) = life_of-mirrored h lives v

-- ---- the ends of what an arc is made of

some_unwrapped : {X : Type 0} (o : Option X) (x : X) → is_some o ≡ true → o ≡ Some (unwrap_or o x)
some_unwrapped None x is = absurd (false≢true is)
some_unwrapped (Some y) x is = refl

-- where the source is alive, the lifespan that holds the first departure is there
pub source_stay-found : (lives : List (List Interval)) (arc : Arc) → IsArcOn lives arc → lifespan_at (life_of lives arc.from) (start_of arc.over) ≡ Some (source_stay lives arc)
unfolding source_stay
source_stay-found lives arc on =
    let inside = holds-from arc.over (start_of arc.over) (omega arith) (omega (arith, arc.over.proper.0)) in
    some_unwrapped (lifespan_at (life_of lives arc.from) (start_of arc.over)) arc.over (is_some-lifespan_at (life_of lives arc.from) (start_of arc.over) ∙ on.alive (start_of arc.over) inside)

pub source_stay-read : (lives : List (List Interval)) (arc : Arc) (spans : List Interval) (t : ℕ) (stay : Option Interval) → IsArcOn lives arc → spans ≡ life_of lives arc.from → t ≡ start_of arc.over → stay ≡ lifespan_at spans t → stay ≡ Some (source_stay lives arc)
source_stay-read lives arc spans t stay on life first is =
    is
    ∙ ap (λ xs. lifespan_at xs t) life
    ∙ ap (lifespan_at (life_of lives arc.from)) first
    ∙ source_stay-found lives arc on

-- the interval with the ends of the arrivals is that of the arrivals
pub arrivals_of-made : (arc : Arc) (made : Interval) → start_of made ≡ start_of arc.over + arc.time → end_of made ≡ end_of arc.over + arc.time → made ≡ arrivals_of arc
unfolding arrivals_of
arrivals_of-made arc made starts ends =
    ap (λ o. unwrap_or o arc.over) (interval_between-made made ∙ ap (λ a. interval_between a (end_of made)) starts ∙ ap (interval_between (start_of arc.over + arc.time)) ends)

made_of_arrivals : (arc : Arc) → end_of arc.over + arc.time ≤ LAST → Interval
made_of_arrivals arc within = record {
  a = start_of arc.over + arc.time;
  b = end_of arc.over + arc.time;
  proper = (omega (arith, arc.over.proper.0), within);
}

abbrev Arrive : Arc → Interval → Type 0
Arrive arc made = (start_of made ≡ start_of arc.over + arc.time) × (end_of made ≡ end_of arc.over + arc.time)

arrivals_of-ends : (arc : Arc) → end_of arc.over + arc.time ≤ LAST → (start_of (arrivals_of arc) ≡ start_of arc.over + arc.time) × (end_of (arrivals_of arc) ≡ end_of arc.over + arc.time)
unfolding made_of_arrivals
arrivals_of-ends arc within =
    subst (Arrive arc) (arrivals_of-made arc (made_of_arrivals arc within) refl refl) (refl, refl)

pub mirrored_arc-made : (h : ℕ) (lives : List (List Interval)) (arc : Arc) (over stay : Interval) → over ≡ mirrored_interval h (arrivals_of arc) → stay ≡ mirrored_interval h (source_stay lives arc) → record { from = arc.to; edge = arc.edge; over = over; to = arc.from; time = arc.time; cost = arc.cost; stay = stay } ≡ mirrored_arc h lives arc
mirrored_arc-made h lives arc over stay is holds_it = λ i. record {
  from = arc.to;
  edge = arc.edge;
  over = is i;
  to = arc.from;
  time = arc.time;
  cost = arc.cost;
  stay = holds_it i;
}

-- ---- an arc of a table whose vertices live below h

module _ (h : ℕ) (lives : List (List Interval)) (below : (v t : ℕ) → IsTrue (vertex_is_alive lives v t) → t < h) where
  pub stay_ends_by : (v s : ℕ) (stay : Interval) → lifespan_at (life_of lives v) s ≡ Some stay → end_of stay ≤ h
  stay_ends_by v s stay found =
      let last : ℕ = end_of stay - 1 in
      let held = held_by_stay (life_of lives v) s last stay found (holds-from stay last (omega (arith, stay.proper.0)) (omega (arith, stay.proper.0))) in
      omega (arith, below v last held)

  pub arrives_by : (arc : Arc) → StaysAt lives arc → end_of arc.over + arc.time ≤ h
  arrives_by arc stays =
      omega (arith, stays.last, stay_ends_by arc.to (start_of arc.over + arc.time) arc.stay stays.lifespan)

  pub source_ends_by : (arc : Arc) → IsArcOn lives arc → end_of (source_stay lives arc) ≤ h
  source_ends_by arc on =
      stay_ends_by arc.from (start_of arc.over) (source_stay lives arc) (source_stay-found lives arc on)

module _ (h : ℕ) (last : h ≤ LAST) (lives : List (List Interval)) (are : All IsLife lives) (below : (v t : ℕ) → IsTrue (vertex_is_alive lives v t) → t < h) where
  life_of-ends : (v : ℕ) → All (λ span. end_of span ≤ h) (life_of lives v)
  life_of-ends v = all_end_by h (life_of lives v) (below v)

  -- a vertex is alive in the mirror at the mirrored instants, and only below h
  alive_in_mirror : (v t : ℕ) → t < h → vertex_is_alive (map (mirrored_life h) lives) v t ≡ vertex_is_alive lives v (mirrored h t)
  alive_in_mirror v t early =
      ap (λ spans. is_held spans t) (life_of-mirrored h lives v)
      ∙ ⊎_elim
      (λ (less : v < length lives). is_held-mirrored h last (life_of lives v) t (All-get_or IsLife lives v [] less are) (life_ends_by h lives v (below v)) early)
      (λ (past : length lives ≤ v). subst (λ spans. is_held (mirrored_life h spans) t ≡ is_held spans (mirrored h t)) (sym (get_or_past lives v [] past)) refl)
      (cases_lt v (length lives))

  below_in_mirror : (v t : ℕ) → IsTrue (vertex_is_alive (map (mirrored_life h) lives) v t) → t < h
  below_in_mirror v t alive =
      held_below h (life_of (map (mirrored_life h) lives) v) t (subst (All (λ span. end_of span ≤ h)) (sym (life_of-mirrored h lives v)) (all_end_in_mirror h (life_of lives v) last (life_of-ends v))) alive

  -- the mirrored arc is taken at the mirror of the arrivals
  over_in_mirror : (arc : Arc) → StaysAt lives arc → (start_of (mirrored_interval h (arrivals_of arc)) + (end_of arc.over + arc.time) ≡ h) × (end_of (mirrored_interval h (arrivals_of arc)) + (start_of arc.over + arc.time) ≡ h)
  over_in_mirror arc stays =
      let within = arrives_by h lives below arc stays in
      let arrive = arrivals_of-ends arc (omega (arith, within, last)) in
      let ends = mirrored_interval-ends h (arrivals_of arc) (omega (arith, arrive.1, within)) last in
      (omega (arith, ends.0, arrive.1), omega (arith, ends.1, arrive.0))

  -- the lifespan of the source holds every departure
  source_covers : (arc : Arc) → IsArcOn lives arc → (start_of (source_stay lives arc) ≤ start_of arc.over) × (end_of arc.over ≤ end_of (source_stay lives arc))
  source_covers arc on =
      let found = source_stay-found lives arc on in (
        (holds-true (source_stay lives arc) (start_of arc.over) (lifespan_at-holds (life_of lives arc.from) (start_of arc.over) (source_stay lives arc) found)).0,
        one_holds (life_of lives arc.from) arc.over (source_stay lives arc) (All-get_or IsLife lives arc.from [] on.from are) found on.alive,
      )

  stays_in_mirror : (arc : Arc) → IsArcOn lives arc → StaysAt lives arc → StaysAt (map (mirrored_life h) lives) (mirrored_arc h lives arc)
  stays_in_mirror arc on stays =
      let life = All-get_or IsLife lives arc.from [] on.from are in
      let spans = life_of lives arc.from in
      let stay = source_stay lives arc in
      let over = over_in_mirror arc stays in
      let covers = source_covers arc on in
      let proper = arc.over.proper.0 in
      let ends = mirrored_interval-ends h stay (source_ends_by h lives below arc on) last in
      let first : ℕ = start_of (mirrored_interval h (arrivals_of arc)) + arc.time in
      let early : first < h = omega (arith, over.0, proper) in
      let final : mirrored h first ≡ end_of arc.over - 1 = omega (arith, over.0, proper) in
      let inside : holds stay (mirrored h first) ≡ true = holds-from stay (mirrored h first) (omega (arith, final, covers.0, proper)) (omega (arith, final, covers.1, proper)) in
      let found = one_lifespan spans (start_of arc.over) (mirrored h first) stay life (source_stay-found lives arc on) inside in
      record {
        lifespan =
            ap (λ xs. lifespan_at xs first) (life_of-mirrored h lives arc.from)
            ∙ lifespan_at-mirrored h last spans first life (life_ends_by h lives arc.from (below arc.from)) early
            ∙ ap (option_map (mirrored_interval h)) found;
        last = omega (arith, over.1, ends.1, covers.0);
      }

  on_in_mirror : (arc : Arc) → IsArcOn lives arc → StaysAt lives arc → IsArcOn (map (mirrored_life h) lives) (mirrored_arc h lives arc)
  on_in_mirror arc on stays = record {
    from = omega (arith, on.to, length-map lives (mirrored_life h));
    to = omega (arith, on.from, length-map lives (mirrored_life h));
    time = on.time;
    alive = λ t held.
        let over = over_in_mirror arc stays in
        let inside = holds-true (mirrored_interval h (arrivals_of arc)) t held in
        let arrives = holds-true arc.stay (start_of arc.over + arc.time) (lifespan_at-holds (life_of lives arc.to) (start_of arc.over + arc.time) arc.stay stays.lifespan) in
        let early : t < h = omega (arith, inside.1, over.1) in
        let at : holds arc.stay (mirrored h t) ≡ true = holds-from arc.stay (mirrored h t) (omega (arith, arrives.0, inside.1, over.1)) (omega (arith, inside.0, over.0, stays.last)) in
        alive_in_mirror arc.to t early ∙ held_by_stay (life_of lives arc.to) (start_of arc.over + arc.time) (mirrored h t) arc.stay stays.lifespan at;
  }

  -- a hop along an arc is mirrored to one along the mirrored arc, and back
  hop_in_mirror : (arcs : List Arc) (arc : Arc) (depart : ℕ) → StaysAt lives arc → Contains arcs arc → holds arc.over depart ≡ true → IsHopOn (map (mirrored_arc h lives) arcs) (mirrored_hop h (hop_along arc depart))
  hop_in_mirror arcs arc depart stays among held =
      let over = over_in_mirror arc stays in
      let inside = holds-true arc.over depart held in
      record {
        arc = mirrored_arc h lives arc;
        among = Contains-map (mirrored_arc h lives) arcs arc among;
        held = holds-from (mirrored_interval h (arrivals_of arc)) (mirrored h (depart + arc.time)) (omega (arith, over.0, inside.1)) (omega (arith, over.1, inside.0, inside.1, arrives_by h lives below arc stays));
        is = refl;
      }

  hop_out_of_mirror : (arcs : List Arc) (arc : Arc) (depart : ℕ) → StaysAt lives arc → Contains arcs arc → holds (mirrored_interval h (arrivals_of arc)) depart ≡ true → IsHopOn arcs (mirrored_hop h (hop_along (mirrored_arc h lives arc) depart))
  hop_out_of_mirror arcs arc depart stays among held =
      let over = over_in_mirror arc stays in
      let inside = holds-true (mirrored_interval h (arrivals_of arc)) depart held in
      record {
        arc = arc;
        among = among;
        held = holds-from arc.over (mirrored h (depart + arc.time)) (omega (arith, over.1, inside.1)) (omega (arith, over.0, inside.0, over.1, inside.1));
        is = refl;
      }

  arrives_below : (arc : Arc) (depart : ℕ) → StaysAt lives arc → holds arc.over depart ≡ true → depart + arc.time < h
  arrives_below arc depart stays held =
      omega (arith, (holds-true arc.over depart held).1, arrives_by h lives below arc stays)

  arrives_below_in_mirror : (arc : Arc) (depart : ℕ) → StaysAt lives arc → holds (mirrored_interval h (arrivals_of arc)) depart ≡ true → depart + arc.time < h
  arrives_below_in_mirror arc depart stays held =
      omega (arith, (holds-true (mirrored_interval h (arrivals_of arc)) depart held).1, (over_in_mirror arc stays).1)

-- ---- the table

module _ (h : ℕ) (last : h ≤ LAST) (lives : List (List Interval)) (arcs : List Arc) (table : IsTable lives arcs) (below : (v t : ℕ) → IsTrue (vertex_is_alive lives v t) → t < h) (stays : All (StaysAt lives) arcs) where
  -- what the mirrored arc of each arc keeps, each arc of the mirrored table keeps
  All-in_mirror : (P : Arc → Type 0) → ((arc : Arc) → Contains arcs arc → IsArcOn lives arc → StaysAt lives arc → P (mirrored_arc h lives arc)) → All P (map (mirrored_arc h lives) arcs)
  All-in_mirror P each =
      All-map P (mirrored_arc h lives) arcs (λ k d less. each (get_or arcs k d) (Contains-get_or arcs k d less) (table.arcs_on k d less) (stays k d less))

  All-in_table : (P : Arc → Type 0) → ((arc : Arc) → Contains arcs arc → IsArcOn lives arc → StaysAt lives arc → P (mirrored_arc h lives arc)) → All P (sorted arc_order (map (mirrored_arc h lives) arcs))
  All-in_table P each = All-sorted P arc_order (map (mirrored_arc h lives) arcs) (All-in_mirror P each)

  arcs_on_in_mirror : All (IsArcOn (map (mirrored_life h) lives)) (map (mirrored_arc h lives) arcs)
  arcs_on_in_mirror =
      All-in_mirror (IsArcOn (map (mirrored_life h) lives)) (λ arc among on stay. on_in_mirror h last lives table.lives_are below arc on stay)

  pub made_arcs_on : (lives' : List (List Interval)) (arcs' : List Arc) → lives' ≡ map (mirrored_life h) lives → arcs' ≡ map (mirrored_arc h lives) arcs → All (IsArcOn lives') arcs'
  made_arcs_on lives' arcs' are is =
      subst (λ ls. All (IsArcOn ls) arcs') (sym are) (subst (All (IsArcOn (map (mirrored_life h) lives))) (sym is) arcs_on_in_mirror)

  pub table_stays_in_mirror : (lives' : List (List Interval)) (arcs' : List Arc) → lives' ≡ map (mirrored_life h) lives → arcs' ≡ sorted arc_order (map (mirrored_arc h lives) arcs) → All (StaysAt lives') arcs'
  table_stays_in_mirror lives' arcs' are is =
      subst (λ ls. All (StaysAt ls) arcs') (sym are)
      (subst (All (StaysAt (map (mirrored_life h) lives))) (sym is)
      (All-in_table (StaysAt (map (mirrored_life h) lives)) (λ arc among on stay. stays_in_mirror h last lives table.lives_are below arc on stay)))

  arrives : (hop : Hop) → IsHopOn arcs hop → arrival hop < h
  arrives hop on =
      let time : hop.time ≡ on.arc.time = ap (λ (x : Hop). x.time) on.is in
      omega (arith, time, arrives_below h last lives table.lives_are below on.arc hop.depart (All-contains (StaysAt lives) arcs on.arc stays on.among) on.held)

  abbrev ArrivesEarly : Arc → Type 0
  ArrivesEarly arc = (t : ℕ) → holds arc.over t ≡ true → t + arc.time < h

  arrives_in_mirror : (hop : Hop) → IsHopOn (sorted arc_order (map (mirrored_arc h lives) arcs)) hop → arrival hop < h
  arrives_in_mirror hop on =
      let time : hop.time ≡ on.arc.time = ap (λ (x : Hop). x.time) on.is in
      let all = All-in_table ArrivesEarly (λ arc among on stay t. arrives_below_in_mirror h last lives table.lives_are below arc t stay) in
      omega (arith, time, All-contains ArrivesEarly (sorted arc_order (map (mirrored_arc h lives) arcs)) on.arc all on.among hop.depart on.held)

  sorted_hop : (xs : List Arc) (hop : Hop) → IsHopOn xs hop → IsHopOn (sorted arc_order xs) hop
  sorted_hop xs hop on =
      record { arc = on.arc; among = Contains-sorted arc_order xs on.arc on.among; held = on.held; is = on.is }

  hops : (hop : Hop) → IsHopOn arcs hop → IsHopOn (sorted arc_order (map (mirrored_arc h lives) arcs)) (mirrored_hop h hop)
  hops hop on =
      let stay = All-contains (StaysAt lives) arcs on.arc stays on.among in
      subst (λ x. IsHopOn (sorted arc_order (map (mirrored_arc h lives) arcs)) (mirrored_hop h x)) (sym on.is)
      (sorted_hop (map (mirrored_arc h lives) arcs) (mirrored_hop h (hop_along on.arc hop.depart)) (hop_in_mirror h last lives table.lives_are below arcs on.arc hop.depart stay on.among on.held))

  abbrev ComesBack : Arc → Type 0
  ComesBack arc = (t : ℕ) → holds arc.over t ≡ true → IsHopOn arcs (mirrored_hop h (hop_along arc t))

  hops_back : (hop : Hop) → IsHopOn (sorted arc_order (map (mirrored_arc h lives) arcs)) hop → IsHopOn arcs (mirrored_hop h hop)
  hops_back hop on =
      let all = All-in_table ComesBack (λ arc among on stay t. hop_out_of_mirror h last lives table.lives_are below arcs arc t stay among) in
      subst (λ x. IsHopOn arcs (mirrored_hop h x)) (sym on.is)
      (All-contains ComesBack (sorted arc_order (map (mirrored_arc h lives) arcs)) on.arc all on.among hop.depart on.held)

  mirrored_itself : AreMirrored h (vertex_is_alive lives) (vertex_is_alive (map (mirrored_life h) lives)) (IsHopOn arcs) (IsHopOn (sorted arc_order (map (mirrored_arc h lives) arcs)))
  mirrored_itself = record {
    below = below;
    below' = below_in_mirror h last lives table.lives_are below;
    lives = alive_in_mirror h last lives table.lives_are below;
    arrives = arrives;
    arrives' = arrives_in_mirror;
    hops = hops;
    hops' = hops_back;
  }

  pub mirrored_table : (lives' : List (List Interval)) (arcs' : List Arc) → lives' ≡ map (mirrored_life h) lives → arcs' ≡ sorted arc_order (map (mirrored_arc h lives) arcs) → AreMirrored h (vertex_is_alive lives) (vertex_is_alive lives') (IsHopOn arcs) (IsHopOn arcs')
  mirrored_table lives' arcs' are is =
      subst (λ ls. AreMirrored h (vertex_is_alive lives) (vertex_is_alive ls) (IsHopOn arcs) (IsHopOn arcs')) (sym are)
      (subst (λ xs. AreMirrored h (vertex_is_alive lives) (vertex_is_alive (map (mirrored_life h) lives)) (IsHopOn arcs) (IsHopOn xs)) (sym is) mirrored_itself)
