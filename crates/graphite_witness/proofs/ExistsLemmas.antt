-- The written journey exists wherever there is a best value: of the hops that can be the last, or the first, of a best
-- journey a first one is found among the arcs, and then the hops before it, or after it, are written in the same way.
use Rattle.std.proofs.Common.{◌≡◌, ◌≢◌, ◌↔◌, refl, sym, ap, subst, ◌∙◌, ℕ, zero, suc, ◌+◌, ◌<◌, ◌≤◌, Bool, true, false, IsTrue, List, [], ◌∷◌, length, reverse, is_some, Option, None, Some, arith, inl, inr, ◌⊎◌, ⊎_elim}
use Rattle.std.specs.List.{Contains}
use Rattle.std.proofs.lemmas.Bool.{cases_eq, cases_lt, false≢true}
use Rattle.std.proofs.lemmas.List.{reverse-reverse}
use Rattle.std.proofs.lemmas.Option.{none-some, same_Some}
use Rattle.graphite_time.specs.declared.TheConstants.{LAST}
use Rattle.graphite_time.specs.declared.interval.Interval.{Interval}
use Rattle.graphite_time.specs.Interval.{end_of, holds}
use Rattle.graphite_time.specs.Life.{lifespan_at}
use Rattle.graphite_time.proofs.LifeLemmas.{holds-true, is_some-lifespan_at, lifespan_at-holds}
use Rattle.graphite_part.specs.declared.piece.Piece.{Piece}
use Rattle.graphite_api.specs.declared.arc.Arc.{Arc}
use Rattle.graphite_api.specs.declared.kind.Kind.{Kind}
use Rattle.graphite_api.specs.declared.kind.Kind.TheVariants.{Reach, Earliest, Cheapest, Fastest, Latest}
use Rattle.graphite_api.specs.declared.path_query.PathQuery.{PathQuery}
use Rattle.graphite_api.specs.Hop.{Hop, arrival, Waits}
use Rattle.graphite_api.specs.Journey.{IsJourney, IsAskedFor, IsAsGood, journey_value, IsValueWithin, IsBestOverAll}
use Rattle.graphite_api.specs.Table.{life_of, vertex_is_alive, IsTable}
use Rattle.graphite_api.specs.TableHops.{hop_along, IsHopOn}
use Rattle.graphite_api.specs.Written.{value_after, CanEnd, CanBegin, IsBefore, IsBeforeLate, IsBestWithoutHops, IsWrittenTo, IsWrittenFrom, AreWritten, IsWritten}
use Rattle.graphite_api.proofs.BestLemmas.{IsBest-at}
use Rattle.graphite_api.proofs.DepartureLemmas.{hop_takes_time}
use Rattle.graphite_api.proofs.MemberLemmas.{Contains-cases, Contains-first, Contains-later, Contains-nil}
use Rattle.graphite_api.proofs.WaitLemmas.{waits-first}
use Rattle.graphite_api.proofs.WrittenLemmas.{best-one}
use Rattle.graphite_api.proofs.WrittenExists as Forward
use Rattle.graphite_witness.specs.Answered.{value_for, IsAnswered}
use Rattle.graphite_witness.specs.Ends.{can_end, can_begin}
use Rattle.graphite_witness.specs.Standing.{standing_from}
use Rattle.graphite_witness.proofs.StandLemmas.{standing-start, standing-elsewhere, standing-best, best-standing, standing-alive}
use Rattle.graphite_witness.proofs.StartLemmas.{start-written}

-- the order of hops is total
before-total : (hop other : Hop) → IsBefore hop other ⊎ IsBefore other hop
before-total hop other =
    ⊎_elim (λ (less : hop.edge < other.edge). inl (inl less))
    (λ (ge : other.edge ≤ hop.edge).
    ⊎_elim (λ (more : other.edge < hop.edge). inr (inl more))
    (λ (le : hop.edge ≤ other.edge).
    let same : hop.edge ≡ other.edge = omega (arith, ge, le) in
    ⊎_elim (λ (early : hop.depart < other.depart). inl (inr (same, omega (arith, early)))) (λ (late : other.depart ≤ hop.depart). inr (inr (sym same, late)))
    (cases_lt hop.depart other.depart))
    (cases_lt other.edge hop.edge))
    (cases_lt hop.edge other.edge)

before-through : (a b c : Hop) → IsBefore a b → IsBefore b c → IsBefore a c
before-through a b c (inl first) (inl then) = inl (omega (arith, first, then))
before-through a b c (inl first) (inr then) = let same = then.0 in inl (omega (arith, first, same))
before-through a b c (inr first) (inl then) = let same = first.0 in inl (omega (arith, same, then))
before-through a b c (inr first) (inr then) = let low = first.1 in let high = then.1 in inr (first.0 ∙ then.0, omega (arith, low, high))

late-total : (hop other : Hop) → IsBeforeLate hop other ⊎ IsBeforeLate other hop
late-total hop other =
    ⊎_elim (λ (less : hop.edge < other.edge). inl (inl less))
    (λ (ge : other.edge ≤ hop.edge).
    ⊎_elim (λ (more : other.edge < hop.edge). inr (inl more))
    (λ (le : hop.edge ≤ other.edge).
    let same : hop.edge ≡ other.edge = omega (arith, ge, le) in
    ⊎_elim (λ (early : hop.depart < other.depart). inr (inr (sym same, omega (arith, early)))) (λ (late : other.depart ≤ hop.depart). inl (inr (same, late)))
    (cases_lt hop.depart other.depart))
    (cases_lt other.edge hop.edge))
    (cases_lt hop.edge other.edge)

late-through : (a b c : Hop) → IsBeforeLate a b → IsBeforeLate b c → IsBeforeLate a c
late-through a b c (inl first) (inl then) = inl (omega (arith, first, then))
late-through a b c (inl first) (inr then) = let same = then.0 in inl (omega (arith, first, same))
late-through a b c (inr first) (inl then) = let same = first.0 in inl (omega (arith, same, then))
late-through a b c (inr first) (inr then) = let high = first.1 in let low = then.1 in inr (first.0 ∙ then.0, omega (arith, low, high))

-- the hop along the arc at the instant, one of the arc's, has the property
abbrev Along : (Hop → Type 0) → Arc → ℕ → Type 0
Along P arc d = IsTrue (holds arc.over d) × P (hop_along arc d)

-- for one arc, and for some arcs, the first of the hops along them that have a property is there, or none has it
abbrev FirstAlong : (Hop → Type 0) → (Hop → Hop → Type 0) → Arc → Type 0
FirstAlong P Comes arc = ((hop : Hop) × P hop × ((d : ℕ) → Along P arc d → Comes hop (hop_along arc d))) ⊎ ((d : ℕ) → Along P arc d → ⊥)

abbrev FirstIn : (Hop → Type 0) → (Hop → Hop → Type 0) → List Arc → Type 0
FirstIn P Comes xs =
    ((hop : Hop) × P hop × ((arc : Arc) (d : ℕ) → Contains xs arc → Along P arc d → Comes hop (hop_along arc d)))
    ⊎ ((arc : Arc) (d : ℕ) → Contains xs arc → Along P arc d → ⊥)

-- with the first for each arc there is one for all of them
module _ (arcs : List Arc) (P : Hop → Type 0) (Comes : Hop → Hop → Type 0) (total : (hop other : Hop) → Comes hop other ⊎ Comes other hop) (through : (a b c : Hop) → Comes a b → Comes b c → Comes a c) where
  first-one_more : (arc : Arc) (xs : List Arc) → FirstAlong P Comes arc → FirstIn P Comes xs → FirstIn P Comes (arc ∷ xs)
  first-one_more arc xs (inl here) (inl there) = ⊎_elim first then (total here.0 there.0)
    where
      cases : (hop : Hop) → Comes hop here.0 → Comes hop there.0 → (other : Arc) (d : ℕ) → Contains (arc ∷ xs) other → Along P other d → Comes hop (hop_along other d)
      cases hop of_here of_there other d among has =
          ⊎_elim
          (λ (is : arc ≡ other). through hop here.0 (hop_along other d) of_here
          (subst (λ a. Along P a d → Comes here.0 (hop_along a d)) is (here.2 d) has))
          (λ (later : Contains xs other). through hop there.0 (hop_along other d) of_there (there.2 other d later has))
          (Contains-cases other arc xs among)

      itself : (hop : Hop) → Comes hop hop
      itself hop = ⊎_elim (λ (c : Comes hop hop). c) (λ (c : Comes hop hop). c) (total hop hop)

      first : Comes here.0 there.0 → FirstIn P Comes (arc ∷ xs)
      first comes = inl (here.0, here.1, cases here.0 (itself here.0) comes)

      then : Comes there.0 here.0 → FirstIn P Comes (arc ∷ xs)
      then comes = inl (there.0, there.1, cases there.0 comes (itself there.0))
  first-one_more arc xs (inl here) (inr none) = inl (
    here.0,
    here.1,
    λ other d among has.
        ⊎_elim (λ (is : arc ≡ other). subst (λ a. Along P a d → Comes here.0 (hop_along a d)) is (here.2 d) has)
        (λ (later : Contains xs other). absurd (none other d later has)) (Contains-cases other arc xs among),
  )
  first-one_more arc xs (inr none) (inl there) = inl (
    there.0,
    there.1,
    λ other d among has.
        ⊎_elim (λ (is : arc ≡ other). absurd (subst (λ a. Along P a d → ⊥) is (none d) has))
        (λ (later : Contains xs other). there.2 other d later has) (Contains-cases other arc xs among),
  )
  first-one_more arc xs (inr none) (inr never) = inr (λ other d among has.
      ⊎_elim (λ (is : arc ≡ other). subst (λ a. Along P a d → ⊥) is (none d) has)
      (λ (later : Contains xs other). never other d later has) (Contains-cases other arc xs among))

  first-in : (xs : List Arc) → ((arc : Arc) → Contains xs arc → FirstAlong P Comes arc) → FirstIn P Comes xs
  first-in [] along = inr (λ arc d among has. Contains-nil arc among)
  first-in (arc ∷ xs) along =
      first-one_more arc xs (along arc (Contains-first arc arc xs refl))
      (first-in xs (λ other among. along other (Contains-later other arc xs among)))

  -- where there is one at all
  first-of : ((hop : Hop) → P hop → IsHopOn arcs hop) → ((arc : Arc) → Contains arcs arc → FirstAlong P Comes arc) → (hop : Hop) × P hop → (hop : Hop) × P hop × ((other : Hop) → P other → Comes hop other)
  first-of on along some = by (first-in arcs along)
    where
      by : FirstIn P Comes arcs → (hop : Hop) × P hop × ((other : Hop) → P other → Comes hop other)
      by (inl found) = (
        found.0,
        found.1,
        λ other has.
            let of_arc = on other has in
            subst (Comes found.0) (sym of_arc.is) (found.2 of_arc.arc other.depart of_arc.among (of_arc.held, subst P of_arc.is has)),
      )
      by (inr none) =
          let of_arc = on some.0 some.1 in
          absurd (none of_arc.arc some.0.depart of_arc.among (of_arc.held, subst P of_arc.is some.1))

-- the least number below n that passes a test, or none does
abbrev LeastBelow : (ℕ → Bool) → ℕ → Type 0
LeastBelow test n = ((d : ℕ) × (d < n) × (test d ≡ true) × ((other : ℕ) → other < n → test other ≡ true → d ≤ other)) ⊎ ((d : ℕ) → d < n → test d ≡ true → ⊥)

least_below : (test : ℕ → Bool) (n : ℕ) → LeastBelow test n
least_below test zero = inr (λ d less pass. omega (arith, less))
least_below test (suc n) = by (least_below test n) (test n) refl
  where
    by : LeastBelow test n → (b : Bool) → test n ≡ b → LeastBelow test (suc n)
    by (inl found) b e =
        let below = found.1 in
        inl (
          found.0,
          omega (arith, below),
          found.2,
          λ other less pass.
              ⊎_elim (λ (early : other < n). found.3 other early pass) (λ (late : n ≤ other). omega (arith, below, late)) (cases_lt other n),
        )
    by (inr none) true e =
        inl (
          n,
          omega arith,
          e,
          λ other less pass.
              ⊎_elim (λ (early : other < n). absurd (none other early pass)) (λ (late : n ≤ other). late) (cases_lt other n),
        )
    by (inr none) false e =
        inr (λ d less pass.
        ⊎_elim (λ (early : d < n). none d early pass)
        (λ (late : n ≤ d). let same : d ≡ n = omega (arith, less, late) in false≢true (sym e ∙ ap test (sym same) ∙ pass)) (cases_lt d n))

-- hops that are written to a vertex, for all kinds but the latest
pub written-to : (alive : ℕ → ℕ → Bool) (IsHop : Hop → Type 0) (query : PathQuery) (Best : ℕ → ℕ → ℕ → Type 0) (kind : Kind) → kind ≢ Latest → (back : List Hop) (v t : ℕ) → IsWrittenTo alive IsHop query Best back v t → AreWritten alive IsHop query kind Best (reverse back) v t
written-to alive IsHop query Best Reach forward back v t written =
    subst (λ hops. IsWrittenTo alive IsHop query Best hops v t) (sym (reverse-reverse back)) written
written-to alive IsHop query Best Earliest forward back v t written =
    subst (λ hops. IsWrittenTo alive IsHop query Best hops v t) (sym (reverse-reverse back)) written
written-to alive IsHop query Best Cheapest forward back v t written =
    subst (λ hops. IsWrittenTo alive IsHop query Best hops v t) (sym (reverse-reverse back)) written
written-to alive IsHop query Best Fastest forward back v t written =
    subst (λ hops. IsWrittenTo alive IsHop query Best hops v t) (sym (reverse-reverse back)) written
written-to alive IsHop query Best Latest forward back v t written = absurd (forward refl)

-- the latest departure
module _ (alive : ℕ → ℕ → Bool) (IsHop : Hop → Type 0) (query : PathQuery) (latest : query.kind ≡ Latest) where
  abbrev LatestBest : (v t x : ℕ) → Type 0
  LatestBest v t x = IsBestOverAll alive IsHop query v t (Some x)

  abbrev Begins : (v t : ℕ) → Hop → Type 0
  Begins v t hop = CanBegin alive IsHop LatestBest v t hop

  leads-latest : (at : ℕ) (hops : List Hop) (v t : ℕ) → IsAskedFor alive IsHop query.kind query.vertex at hops v t → IsJourney alive IsHop v t hops query.vertex at
  leads-latest at hops v t leads = subst (λ kind. IsAskedFor alive IsHop kind query.vertex at hops v t) latest leads

  -- a vertex with a value is alive
  latest-alive : (v t x : ℕ) → LatestBest v t x → IsTrue (alive v t)
  latest-alive v t x top = by top.0.1.hops (leads-latest top.0.1.at top.0.1.hops v t top.0.1.leads)
    where
      by : (hops : List Hop) → IsJourney alive IsHop v t hops query.vertex top.0.1.at → IsTrue (alive v t)
      by [] leads = waits-first alive v t top.0.1.at (subst (λ w. Waits alive w t top.0.1.at) (sym leads.0) leads.1)
      by (hop ∷ hops) leads = waits-first alive v t hop.depart leads.2

  module _ (best : ℕ → ℕ → Option ℕ) (are : (v t : ℕ) → IsBestOverAll alive IsHop query v t (best v t)) where
    -- where no journey without hops has the best value, a hop can be the first one
    some-begins : (v t x : ℕ) → LatestBest v t x → (IsBestWithoutHops alive IsHop query LatestBest v t → ⊥) → (hop : Hop) × Begins v t hop
    some-begins v t x top none = by top.0.1.hops top.0.1.leads (leads-latest top.0.1.at top.0.1.hops v t top.0.1.leads) top.0.1.is
      where
        at : ℕ
        at = top.0.1.at

        by : (hops : List Hop) → IsAskedFor alive IsHop query.kind query.vertex at hops v t → IsJourney alive IsHop v t hops query.vertex at → journey_value query.kind at hops ≡ x → (hop : Hop) × Begins v t hop
        by [] asked leads is =
            absurd (none (x, top, record { at = at; hops = []; from = top.0.1.from; until = top.0.1.until; leads = asked; short = omega arith; is = is }))
        by (hop ∷ hops) asked leads is =
            let departs : hop.depart ≡ x = sym (ap (λ kind. journey_value kind at (hop ∷ hops)) latest) ∙ is in
            let rest : IsValueWithin alive IsHop query (suc (length hops)) hop.to (arrival hop) (journey_value query.kind at hops) = record {
              at = at;
              hops = hops;
              from = top.0.1.from;
              until = top.0.1.until;
              leads = subst (λ kind. IsAskedFor alive IsHop kind query.vertex at hops hop.to (arrival hop)) (sym latest) leads.3;
              short = omega arith;
              is = refl;
            } in
            let after = IsBest-at (IsAsGood query.kind) (λ y. (k : ℕ) × IsValueWithin alive IsHop query k hop.to (arrival hop) y) (best hop.to (arrival hop)) (journey_value query.kind at hops) (suc (length hops), rest) (are hop.to (arrival hop)) in (
              hop,
              record {
                hops = leads.0;
                from = leads.1;
                waits = leads.2;
                gives = subst (LatestBest v t) (sym departs) top;
                after = after.0;
                best_after = subst (IsBestOverAll alive IsHop query hop.to (arrival hop)) after.1 (are hop.to (arrival hop));
              },
            )

    -- every hop arrives later, and nothing is alive from h on
    module _ (h : ℕ) (below : (v t : ℕ) → IsTrue (alive v t) → t < h) (takes_time : (hop : Hop) → IsHop hop → 1 ≤ hop.time) (stands : (v t : ℕ) → IsBestWithoutHops alive IsHop query LatestBest v t ⊎ (IsBestWithoutHops alive IsHop query LatestBest v t → ⊥)) (first : (v t : ℕ) → (hop : Hop) × Begins v t hop → (hop : Hop) × Begins v t hop × ((other : Hop) → Begins v t other → IsBeforeLate hop other)) where
      written_after : (n v t x : ℕ) → h ≤ t + n → LatestBest v t x → (hops : List Hop) × IsWrittenFrom alive IsHop query LatestBest hops v t
      written_after zero v t x near top = let soon = below v t (latest-alive v t x top) in absurd (omega (arith, near, soon))
      written_after (suc n) v t x near top = ⊎_elim (λ (standing : IsBestWithoutHops alive IsHop query LatestBest v t). ([], standing)) (λ (none : IsBestWithoutHops alive IsHop query LatestBest v t → ⊥).
          let found = first v t (some-begins v t x top none) in
          let hop : Hop = found.0 in
          let begins : Begins v t hop = found.1 in
          let takes = takes_time hop begins.hops in
          let departs : t ≤ hop.depart = begins.waits.order in
          let after = written_after n hop.to (arrival hop) begins.after (omega (arith, near, takes, departs)) begins.best_after in
          (hop ∷ after.0, (none, begins, found.2, after.1)))
          (stands v t)

      written_from : (v t x : ℕ) → LatestBest v t x → (hops : List Hop) × IsWrittenFrom alive IsHop query LatestBest hops v t
      written_from v t x top = written_after h v t x (omega arith) top

-- no vertex is alive from the last instant on
pub alive-below : (lives : List (List Interval)) (v t : ℕ) → IsTrue (vertex_is_alive lives v t) → t < LAST
alive-below lives v t held = by (lifespan_at (life_of lives v) t) refl
  where
    by : (o : Option Interval) → lifespan_at (life_of lives v) t ≡ o → t < LAST
    by None e = absurd (false≢true (sym (ap is_some e) ∙ is_some-lifespan_at (life_of lives v) t ∙ held))
    by (Some span) e =
        let inside = (holds-true span t (lifespan_at-holds (life_of lives v) t span e)).1 in
        let within = span.proper.1 in
        omega (arith, inside, within)

module _ (lives : List (List Interval)) (arcs : List Arc) (query : PathQuery) (values : List (List (Piece (Option ℕ)))) (table : IsTable lives arcs) (answered : IsAnswered lives arcs query values) where
  abbrev alive : ℕ → ℕ → Bool
  alive = vertex_is_alive lives

  abbrev Best : (v t x : ℕ) → Type 0
  Best v t x = IsBestOverAll alive (IsHopOn arcs) query v t (Some x)

  abbrev Standing : (v t : ℕ) → Type 0
  Standing v t = IsBestWithoutHops alive (IsHopOn arcs) query Best v t

  -- whether a journey without hops has the best value is decided by the instant that is given for these
  pub standing-or_not : (v t : ℕ) → IsBestWithoutHops (vertex_is_alive lives) (IsHopOn arcs) query Best v t ⊎ (IsBestWithoutHops (vertex_is_alive lives) (IsHopOn arcs) query Best v t → ⊥)
  standing-or_not v t = by (value_for values v t) (answered.best v t)
    where
      by-instant : (b : ℕ) → Best v t b → query.vertex ≡ v → (span : Interval) → lifespan_at (life_of lives v) t ≡ Some span → (o : Option ℕ) → standing_from query.kind query.from query.until span t ≡ o → Standing v t ⊎ (Standing v t → ⊥)
      by-instant b top here span found None e = inr (λ standing.
          let only = best-standing lives table.lives_are (IsHopOn arcs) query v t b here span found top standing in
          none-some only.0 (sym e ∙ only.1))
      by-instant b top here span found (Some at) e =
          ⊎_elim (λ (is : journey_value query.kind at [] ≡ b). inl (standing-best lives table.lives_are (IsHopOn arcs) query v t b here span found top at e is))
          (λ (not : journey_value query.kind at [] ≢ b). inr (λ standing.
          let only = best-standing lives table.lives_are (IsHopOn arcs) query v t b here span found top standing in
          not (ap (λ p. journey_value query.kind p []) (same_Some _ _ (sym e ∙ only.1)) ∙ only.2)))
          (cases_eq (journey_value query.kind at []) b)

      by-span : (b : ℕ) → Best v t b → query.vertex ≡ v → (o : Option Interval) → lifespan_at (life_of lives v) t ≡ o → Standing v t ⊎ (Standing v t → ⊥)
      by-span b top here None e = inr (λ standing.
          false≢true (sym (ap is_some e) ∙ is_some-lifespan_at (life_of lives v) t ∙ standing-alive lives table.lives_are (IsHopOn arcs) query v t standing))
      by-span b top here (Some span) e = by-instant b top here span e (standing_from query.kind query.from query.until span t) refl

      by : (o : Option ℕ) → IsBestOverAll alive (IsHopOn arcs) query v t o → Standing v t ⊎ (Standing v t → ⊥)
      by None top = inr (λ standing. top standing.0 (1, standing.2))
      by (Some b) top =
          ⊎_elim (λ (here : query.vertex ≡ v). by-span b top here (lifespan_at (life_of lives v) t) refl)
          (λ (far : query.vertex ≢ v). inr (standing-elsewhere lives table.lives_are (IsHopOn arcs) query v t far))
          (cases_eq query.vertex v)

  abbrev LastHop : (v t : ℕ) → Hop → Type 0
  LastHop v t hop = CanEnd alive (IsHopOn arcs) query.kind Best v t hop

  abbrev FirstHop : (v t : ℕ) → Hop → Type 0
  FirstHop v t hop = CanBegin alive (IsHopOn arcs) Best v t hop

  -- `ends` and `begins`: the tests of the last and the first hop are right, at an instant of the arc
  module _ (ends : (arc : Arc) → Contains arcs arc → (v t x : ℕ) → IsBestOverAll (vertex_is_alive lives) (IsHopOn arcs) query v t (Some x) → (d : ℕ) → arc.to ≡ v → IsTrue (can_end values query.kind t x arc d) ↔ (IsTrue (holds arc.over d) × CanEnd (vertex_is_alive lives) (IsHopOn arcs) query.kind Best v t (hop_along arc d))) (begins : (arc : Arc) → Contains arcs arc → (v t x : ℕ) → IsBestOverAll (vertex_is_alive lives) (IsHopOn arcs) query v t (Some x) → arc.from ≡ v → (IsTrue (can_begin values x arc) × Waits (vertex_is_alive lives) v t x) ↔ (IsTrue (holds arc.over x) × CanBegin (vertex_is_alive lives) (IsHopOn arcs) Best v t (hop_along arc x))) where
    -- along an arc it is the earliest that can be the last one
    end-along : (v t x : ℕ) → Best v t x → (arc : Arc) → Contains arcs arc → FirstAlong (LastHop v t) IsBefore arc
    end-along v t x top arc among =
        ⊎_elim (λ (to : arc.to ≡ v). by to (least_below (can_end values query.kind t x arc) (end_of arc.over)))
        (λ (far : arc.to ≢ v). inr (λ d can. far can.1.to)) (cases_eq arc.to v)
      where
        by : arc.to ≡ v → LeastBelow (can_end values query.kind t x arc) (end_of arc.over) → FirstAlong (LastHop v t) IsBefore arc
        by to (inl found) = inl (
          hop_along arc found.0,
          ((ends arc among v t x top found.0 to).0 found.2).1,
          λ d can. inr (refl, found.3 d (holds-true arc.over d can.0).1 ((ends arc among v t x top d to).1 can)),
        )
        by to (inr none) = inr (λ d can. none d (holds-true arc.over d can.0).1 ((ends arc among v t x top d to).1 can))

    -- all that can be the first one depart at the best value
    begin-along : (v t x : ℕ) → Best v t x → Waits alive v t x → (arc : Arc) → Contains arcs arc → FirstAlong (FirstHop v t) IsBeforeLate arc
    begin-along v t x top waits arc among =
        ⊎_elim (λ (from : arc.from ≡ v). by from (can_begin values x arc) refl) (λ (far : arc.from ≢ v). inr (λ d can. far can.1.from)) (cases_eq arc.from v)
      where
        departs : (d : ℕ) → FirstHop v t (hop_along arc d) → d ≡ x
        departs d can = best-one alive (IsHopOn arcs) query v t d x can.gives top

        by : arc.from ≡ v → (b : Bool) → can_begin values x arc ≡ b → FirstAlong (FirstHop v t) IsBeforeLate arc
        by from true e = inl (
          hop_along arc x,
          ((begins arc among v t x top from).0 (e, waits)).1,
          λ d can.
              let same = departs d can.1 in inr (refl, omega (arith, same)),
        )
        by from false e = inr (λ d can.
            let here = subst (Along (FirstHop v t) arc) (departs d can.1) can in
            false≢true (sym e ∙ ((begins arc among v t x top from).1 here).0))

    -- of the hops that can be the last one there is a first
    pub first_end : (v t : ℕ) → (hop : Hop) × CanEnd (vertex_is_alive lives) (IsHopOn arcs) query.kind Best v t hop → (hop : Hop) × CanEnd (vertex_is_alive lives) (IsHopOn arcs) query.kind Best v t hop × ((other : Hop) → CanEnd (vertex_is_alive lives) (IsHopOn arcs) query.kind Best v t other → IsBefore hop other)
    first_end v t some =
        first-of arcs (LastHop v t) IsBefore before-total before-through (λ hop can. can.hops) (end-along v t (value_after query.kind some.1.before some.0) some.1.gives) some

    -- and of those that can be the first one
    pub first_begin : (v t : ℕ) → (hop : Hop) × CanBegin (vertex_is_alive lives) (IsHopOn arcs) Best v t hop → (hop : Hop) × CanBegin (vertex_is_alive lives) (IsHopOn arcs) Best v t hop × ((other : Hop) → CanBegin (vertex_is_alive lives) (IsHopOn arcs) Best v t other → IsBeforeLate hop other)
    first_begin v t some =
        first-of arcs (FirstHop v t) IsBeforeLate late-total late-through (λ hop can. can.hops) (begin-along v t some.0.depart some.1.gives some.1.waits) some

    takes_time : (hop : Hop) → IsHopOn arcs hop → 1 ≤ hop.time
    takes_time = hop_takes_time lives arcs table.arcs_on

    hops_exist : (kind : Kind) → query.kind ≡ kind → (v t x : ℕ) → Best v t x → (hops : List Hop) × AreWritten alive (IsHopOn arcs) query query.kind Best hops v t
    hops_exist kind is v t x top = by kind is
      where
        to : query.kind ≢ Latest → (hops : List Hop) × AreWritten alive (IsHopOn arcs) query query.kind Best hops v t
        to forward =
            let found = Forward.written_exists alive (IsHopOn arcs) query forward (value_for values) answered.best takes_time standing-or_not first_end v t x top in
            (reverse found.0, written-to alive (IsHopOn arcs) query Best query.kind forward found.0 v t found.1)

        by : (kind : Kind) → query.kind ≡ kind → (hops : List Hop) × AreWritten alive (IsHopOn arcs) query query.kind Best hops v t
        by Reach is = to (λ late. cc (is, late))
        by Earliest is = to (λ late. cc (is, late))
        by Cheapest is = to (λ late. cc (is, late))
        by Fastest is = to (λ late. cc (is, late))
        by Latest is =
            let found = written_from alive (IsHopOn arcs) query is (value_for values) answered.best LAST (alive-below lives) takes_time standing-or_not first_begin v t x top in
            (found.0, subst (λ kind. AreWritten alive (IsHopOn arcs) query kind Best found.0 v t) (sym is) found.1)

    -- the written journey of every best value
    pub written_exists : (v t x : ℕ) → IsBestOverAll (vertex_is_alive lives) (IsHopOn arcs) query v t (Some x) → (at : ℕ) × (hops : List Hop) × IsWritten (vertex_is_alive lives) (IsHopOn arcs) query Best at hops v t
    written_exists v t x top =
        let written = hops_exist query.kind refl v t x top in
        let start = start-written alive (IsHopOn arcs) query Best (standing-start lives table.lives_are (IsHopOn arcs) query) written.0 v t written.1 in
        (start.0, written.0, start.1)
