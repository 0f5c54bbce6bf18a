-- Written journeys of a small world in full: of several instants that could start one the preferred, and past a dead end.
use Rattle.std.proofs.Common.{◌≡◌, ◌≢◌, refl, sym, subst, ◌∙◌, ℕ, ◌+◌, ◌<◌, ◌≤◌, Bool, List, [], ◌∷◌, length, Some, arith, lit<, lit≤, inr, ⊎_elim}
use Rattle.std.specs.List.{Contains}
use Rattle.graphite_api.specs.declared.kind.Kind.{Kind}
use Rattle.graphite_api.specs.declared.kind.Kind.TheVariants.{Reach, Cheapest, Fastest, Latest}
use Rattle.graphite_api.specs.declared.path_query.PathQuery.{PathQuery}
use Rattle.graphite_api.specs.Hop.{Hop, arrival, Waits}
use Rattle.graphite_api.specs.Journey.{IsJourney, IsAsGood, journey_value, total_cost, IsBestOverAll}
use Rattle.graphite_api.specs.Written.{CanBegin, IsBefore, IsBeforeLate, IsWrittenTo, IsWrittenFrom, IsWritten}
use Rattle.graphite_api.proofs.JourneyLemmas.{asked-journey, journey-asked}
use Rattle.graphite_api.proofs.ListedHops.{alive_between, waits_between-Waits}
use Rattle.graphite_api.proofs.MemberLemmas.{Contains-cases, Contains-nil}
use Rattle.graphite_api.proofs.SmallWorlds.{not_standing, stands}
use Rattle.graphite_api.proofs.WaitLemmas.{waits-part}
use Rattle.graphite_api.proofs.WrittenLemmas.{after-more}

-- A fork over ten instants: at the instant 3 alone an edge leads from a to c, and the next one from a to b. From b and
-- from c nothing leads on, so for whoever wants to be at b the lesser edge is a dead end.
abbrev to_c : Hop
to_c = record { edge = 0; from = 0; to = 2; depart = 3; time = 1; cost = 1 }

abbrev to_b : Hop
to_b = record { edge = 1; from = 0; to = 1; depart = 3; time = 1; cost = 1 }

abbrev IsForkHop : Hop → Type 0
IsForkHop = Contains (to_c ∷ to_b ∷ [])

abbrev fork_alive : ℕ → ℕ → Bool
fork_alive = alive_between (λ v. 0) (λ v. 10)

abbrev asked : Kind → (vertex : ℕ) → PathQuery
asked kind vertex = record { kind = kind; vertex = vertex; from = 0; until = 10 }

-- the best values are those over all journeys
abbrev IsBestHere : Kind → (vertex v t x : ℕ) → Type 0
IsBestHere kind vertex v t x = IsBestOverAll fork_alive IsForkHop (asked kind vertex) v t (Some x)

abbrev IsWrittenHere : Kind → (vertex at : ℕ) → List Hop → (v t : ℕ) → Type 0
IsWrittenHere kind vertex at hops v t = IsWritten fork_alive IsForkHop (asked kind vertex) (IsBestHere kind vertex) at hops v t

-- the two hops
fork_cases : (P : Hop → Type 0) → P to_c → P to_b → (hop : Hop) → IsForkHop hop → P hop
fork_cases P of_c of_b hop among =
    ⊎_elim (λ (is : to_c ≡ hop). subst P is of_c)
    (λ (later : Contains (to_b ∷ []) hop).
    ⊎_elim (λ (is : to_b ≡ hop). subst P is of_b) (λ (none : Contains [] hop). absurd (Contains-nil hop none))
    (Contains-cases hop to_b [] later))
    (Contains-cases hop to_c (to_b ∷ []) among)

-- each departs from a at 3, costs one and leads elsewhere
fork_hop : (hop : Hop) → IsForkHop hop → (hop.from ≡ 0) × (1 ≤ hop.to) × (hop.depart ≡ 3) × (hop.cost ≡ 1)
fork_hop = fork_cases (λ hop. (hop.from ≡ 0) × (1 ≤ hop.to) × (hop.depart ≡ 3) × (hop.cost ≡ 1)) (refl, lit≤ tt, refl, refl) (refl, lit≤ tt, refl, refl)

-- so a journey with hops starts at a, no later than 3, and ends where its first hop leads
one_hop : (s p : ℕ) (hop : Hop) (hops : List Hop) (v q : ℕ) → IsJourney fork_alive IsForkHop s p (hop ∷ hops) v q → (s ≡ 0) × (p ≤ 3) × (hop.to ≡ v)
one_hop s p hop hops v q leads =
    let is = fork_hop hop leads.0 in
    let order = leads.2.order in
    (sym leads.1 ∙ is.0, omega (arith, order, is.2), by hops leads.3)
  where
    by : (hops : List Hop) → IsJourney fork_alive IsForkHop hop.to (arrival hop) hops v q → hop.to ≡ v
    by [] rest = rest.0
    by (next ∷ hops) rest =
        let away = (fork_hop hop leads.0).1 in
        let back = (fork_hop next rest.0).0 in
        let same = rest.1 in
        absurd (omega (arith, away, back, same))

-- a waits for the departure from each instant until 3, and b waits from the arrival to 9
a_waits : (at : ℕ) → at ≤ 3 → Waits fork_alive 0 at 3
a_waits at soon = waits-part fork_alive 0 0 3 at 3 (omega arith) soon (omega arith) (waits_between-Waits (λ v. 0) (λ v. 10) 0 0 3 refl)

b_waits : Waits fork_alive 1 4 9
b_waits = waits_between-Waits (λ v. 0) (λ v. 10) 1 4 9 refl

b_leads : (at : ℕ) → at ≤ 3 → IsJourney fork_alive IsForkHop 0 at (to_b ∷ []) 1 9
b_leads at soon = ((1, lit< tt, refl), refl, a_waits at soon, (refl, b_waits))

-- the journey of the hop to b that starts at the instant `at`
module _ (kind : Kind) (forward : kind ≢ Latest) (at : ℕ) (soon : at ≤ 3) where
  -- no journey from a to v at t has a better value than these hops have from `at`
  abbrev IsBestOf : (v t : ℕ) → List Hop → Type 0
  IsBestOf v t hops = (y other : ℕ) (others : List Hop) → IsJourney fork_alive IsForkHop 0 other others v t → journey_value kind other others ≡ y → IsAsGood kind (journey_value kind at hops) y

  -- then theirs is the best value
  best_of-best : (v t : ℕ) (hops : List Hop) → IsJourney fork_alive IsForkHop 0 at hops v t → IsBestOf v t hops → IsBestHere kind 0 v t (journey_value kind at hops)
  best_of-best v t hops leads best = (
    (
      length hops + 1,
      record {
        at = at;
        hops = hops;
        from = omega arith;
        until = omega (arith, soon);
        leads = journey-asked fork_alive IsForkHop kind forward 0 at hops v t leads;
        short = omega arith;
        is = refl;
      },
    ),
    λ y value. best y value.1.at value.1.hops (asked-journey fork_alive IsForkHop kind forward 0 value.1.at value.1.hops v t value.1.leads) value.1.is,
  )

  -- where it has the best value, as waiting at a has it before, it is the written one
  hop_written : IsBestOf 0 3 [] → IsBestOf 1 9 (to_b ∷ []) → IsWrittenTo fork_alive IsForkHop (asked kind 0) (IsBestHere kind 0) (to_b ∷ []) 1 9
  hop_written best_at_a best_at_b =
      let here = best_of-best 0 3 [] (refl, a_waits at soon) best_at_a in
      let there = best_of-best 1 9 (to_b ∷ []) (b_leads at soon) best_at_b in (
        not_standing fork_alive IsForkHop (asked kind 0) forward (IsBestHere kind 0) 1 9 (λ same. omega (arith, same)),
        record {
          hops = (1, lit< tt, refl);
          to = refl;
          waits = b_waits;
          before = journey_value kind at [];
          best_before = here;
          gives = subst (IsBestHere kind 0 1 9) (after-more kind forward at [] to_b) there;
        },
        λ other can. fork_cases (λ hop. hop.to ≡ 1 → IsBefore to_b hop) (λ is. absurd (omega (arith, is))) (λ is. inr (refl, lit≤ tt)) other can.hops can.to,
        stands fork_alive IsForkHop (asked kind 0) forward (IsBestHere kind 0) at 3 (omega arith) (omega (arith, soon)) (a_waits at soon) here,
      )

-- a journey to b has hops, so it starts no later than 3 and costs at least one
none_to_b : (other : ℕ) (others : List Hop) → IsJourney fork_alive IsForkHop 0 other others 1 9 → (other ≤ 3) × (1 ≤ total_cost others)
none_to_b other [] leads = let same = leads.0 in absurd (omega (arith, same))
none_to_b other (hop ∷ hops) leads =
    let cost = (fork_hop hop leads.0).3 in
    ((one_hop 0 other hop hops 1 9 leads).1, omega (arith, cost))

-- Each of the instants until 3 could start the journey. Where b is to be reached, or reached for the least cost, the least
-- of them is written.
reach_written : IsWrittenHere Reach 0 0 (to_b ∷ []) 1 9
reach_written = record {
  hops_are = hop_written Reach (λ same. cc) 0 (lit≤ tt) (λ y other others leads is. omega arith) (λ y other others leads is. omega arith);
  from = lit≤ tt;
  until = lit< tt;
  leads = b_leads 0 (lit≤ tt);
  preferred = λ other low high leads. low;
}

cheapest_written : IsWrittenHere Cheapest 0 0 (to_b ∷ []) 1 9
cheapest_written = record {
  hops_are =
      hop_written Cheapest (λ same. cc) 0 (lit≤ tt) (λ y other others leads is. omega arith)
      (λ y other others leads is. let cost = (none_to_b other others leads).1 in omega (arith, cost, is));
  from = lit≤ tt;
  until = lit< tt;
  leads = b_leads 0 (lit≤ tt);
  preferred = λ other low high leads. low;
}

-- Of the fastest journeys it is the greatest.
fastest_written : IsWrittenHere Fastest 0 3 (to_b ∷ []) 1 9
fastest_written = record {
  hops_are =
      hop_written Fastest (λ same. cc) 3 (lit≤ tt)
      (λ y other others leads is. let soon = until_3 other others leads in omega (arith, soon, is))
      (λ y other others leads is. let soon = (none_to_b other others leads).0 in omega (arith, soon, is));
  from = lit≤ tt;
  until = lit< tt;
  leads = b_leads 3 (lit≤ tt);
  preferred = λ other low high leads. leads.2.order;
}
  where
    until_3 : (other : ℕ) (others : List Hop) → IsJourney fork_alive IsForkHop 0 other others 0 3 → other ≤ 3
    until_3 other [] leads = leads.1.order
    until_3 other (hop ∷ hops) leads = (one_hop 0 other hop hops 0 3 leads).1

-- The latest departures to b. From b itself that is to stay until the window ends, and from a it is the instant 3.
abbrev IsLatestTo_b : (v t x : ℕ) → Type 0
IsLatestTo_b = IsBestHere Latest 1

latest_at_b : IsLatestTo_b 1 4 9
latest_at_b = (
  (1, record { at = 9; hops = []; from = lit≤ tt; until = lit< tt; leads = (refl, b_waits); short = lit< tt; is = refl }),
  λ y value. by value.1.at value.1.hops value.1.until value.1.leads y value.1.is,
)
  where
    by : (at : ℕ) (hops : List Hop) → at < 10 → IsJourney fork_alive IsForkHop 1 4 hops 1 at → (y : ℕ) → journey_value Latest at hops ≡ y → y ≤ 9
    by at [] until leads y is = omega (arith, until, is)
    by at (hop ∷ hops) until leads y is = let same = (one_hop 1 4 hop hops 1 at leads).0 in absurd (omega (arith, same))

latest_at_a : IsLatestTo_b 0 0 3
latest_at_a = (
  (2, record { at = 9; hops = to_b ∷ []; from = lit≤ tt; until = lit< tt; leads = b_leads 0 (lit≤ tt); short = lit< tt; is = refl }),
  λ y value. by value.1.at value.1.hops value.1.leads y value.1.is,
)
  where
    by : (at : ℕ) (hops : List Hop) → IsJourney fork_alive IsForkHop 0 0 hops 1 at → (y : ℕ) → journey_value Latest at hops ≡ y → y ≤ 3
    by at [] leads y is = let same = leads.0 in absurd (omega (arith, same))
    by at (hop ∷ hops) leads y is = let depart = (fork_hop hop leads.0).2 in omega (arith, depart, is)

-- from c no journey leads to b, so there is no value at c
none_from_c : (t at : ℕ) (hops : List Hop) → IsJourney fork_alive IsForkHop 2 t hops 1 at → ⊥
none_from_c t at [] leads = let same = leads.0 in omega (arith, same)
none_from_c t at (hop ∷ hops) leads = let same = (one_hop 2 t hop hops 1 at leads).0 in omega (arith, same)

dead_end : (t x : ℕ) → IsLatestTo_b 2 t x → ⊥
dead_end t x best = let value = best.0.1 in none_from_c t value.at value.hops value.leads

-- The hop to c is of the lesser edge and departs at the best value of a, to which a waits; but it cannot begin, for it leads
-- to where there is no value.
to_c_all_but_leads : IsForkHop to_c × (to_c.from ≡ 0) × Waits fork_alive 0 0 to_c.depart × IsLatestTo_b 0 0 to_c.depart × (to_c.edge < to_b.edge)
to_c_all_but_leads = ((0, lit< tt, refl), refl, a_waits 0 (lit≤ tt), latest_at_a, lit< tt)

to_c_cannot_begin : CanBegin fork_alive IsForkHop IsLatestTo_b 0 0 to_c → ⊥
to_c_cannot_begin can = dead_end 4 can.after can.best_after

-- so the hop to b is the first
to_b_first : (other : Hop) → CanBegin fork_alive IsForkHop IsLatestTo_b 0 0 other → IsBeforeLate to_b other
to_b_first other can =
    fork_cases (λ hop. CanBegin fork_alive IsForkHop IsLatestTo_b 0 0 hop → IsBeforeLate to_b hop) (λ can. absurd (to_c_cannot_begin can)) (λ can. inr (refl, lit≤ tt))
    other can.hops can

-- and it is written; then b stands until the window ends
latest_hop_written : IsWrittenFrom fork_alive IsForkHop (asked Latest 1) IsLatestTo_b (to_b ∷ []) 0 0
latest_hop_written = (
  λ standing. away standing.2.at standing.2.hops standing.2.leads standing.2.short,
  record { hops = (1, lit< tt, refl); from = refl; waits = a_waits 0 (lit≤ tt); gives = latest_at_a; after = 9; best_after = latest_at_b },
  to_b_first,
  (9, latest_at_b, record { at = 9; hops = []; from = lit≤ tt; until = lit< tt; leads = (refl, b_waits); short = lit< tt; is = refl }),
)
  where
    away : (at : ℕ) (hops : List Hop) → IsJourney fork_alive IsForkHop 0 0 hops 1 at → length hops < 1 → ⊥
    away at [] leads short = let same = leads.0 in omega (arith, same)
    away at (hop ∷ hops) leads short = absurd (omega (arith, short))

latest_written : IsWrittenHere Latest 1 9 (to_b ∷ []) 0 0
latest_written = record {
  hops_are = latest_hop_written;
  from = lit≤ tt;
  until = lit< tt;
  leads = b_leads 0 (lit≤ tt);
  preferred = λ other low high leads. omega (arith, high);
}
