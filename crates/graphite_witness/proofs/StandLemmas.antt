-- Journeys without hops: the preferred one is the one from the instant that `standing_from` gives.
use Rattle.std.proofs.Common.{◌≡◌, refl, sym, ◌∙◌, ap, subst, ℕ, ◌-◌, ◌<◌, ◌≤◌, ◌&&◌, nat_le, min, max, Bool, true, false, IsTrue, List, [], ◌∷◌, All, length, is_some, Option, None, Some, arith, ⊎_elim}
use Rattle.std.proofs.lemmas.Bool.{cond-true, cond-false, false≢true, leb-true, le-leb, and_parts, and_from, cases_lt}
use Rattle.std.proofs.lemmas.List.{get_or_past}
use Rattle.std.proofs.lemmas.List.Elements.{All-get_or}
use Rattle.std.proofs.lemmas.Option.{none-some, same_Some, cond_some}
use Rattle.graphite_time.specs.declared.interval.Interval.{Interval}
use Rattle.graphite_time.specs.Interval.{start_of, end_of, holds}
use Rattle.graphite_time.specs.Life.{lifespan_at, ComeAfter, IsLife}
use Rattle.graphite_time.proofs.LifeLemmas.{holds-true, holds-from, holds_after, is_some-lifespan_at, lifespan_at-holds, starts_after}
use Rattle.graphite_api.specs.declared.kind.Kind.{Kind}
use Rattle.graphite_api.specs.declared.kind.Kind.TheVariants.{Reach, Earliest, Cheapest, Fastest, Latest}
use Rattle.graphite_api.specs.declared.path_query.PathQuery.{PathQuery}
use Rattle.graphite_api.specs.Hop.{Hop, Waits}
use Rattle.graphite_api.specs.Journey.{IsAskedFor, IsAsGood, journey_value, IsValueWithin, IsBestOverAll}
use Rattle.graphite_api.specs.Table.{life_of, vertex_is_alive}
use Rattle.graphite_api.specs.Written.{IsPreferred, IsBestWithoutHops}
use Rattle.graphite_api.proofs.JourneyLemmas.{as_good-one}
use Rattle.graphite_api.proofs.StayLemmas.{waits-one_lifespan, waits_in_lifespan}
use Rattle.graphite_api.proofs.WaitLemmas.{waits-first, waits-last}
use Rattle.graphite_api.proofs.WrittenLemmas.{best-one}
use Rattle.graphite_witness.specs.Standing.{if_between, standing_from}
use Rattle.graphite_witness.proofs.StartLemmas.{IsPreferredStart}

-- the lifespan that holds an instant is the one found for it
found_later : (before : Interval) (spans : List Interval) (p t : ℕ) (span : Interval) → ComeAfter before spans → lifespan_at (before ∷ spans) p ≡ Some span → holds span t ≡ true → lifespan_at (before ∷ spans) t ≡ Some span
found_later before [] p t span after found held = by (holds before p) refl
  where
    by : (b : Bool) → holds before p ≡ b → lifespan_at (before ∷ []) t ≡ Some span
    by true e =
        let same = same_Some _ _ (sym (cond-true _ _ _ e) ∙ found) in
        cond-true _ _ _ (subst (λ x. holds x t ≡ true) (sym same) held) ∙ ap Some same
    by false e = absurd (none-some span (sym (cond-false _ _ _ e) ∙ found))
found_later before (next ∷ spans) p t span after found held = by (found_later next spans p t span after.1) (holds before p) refl
  where
    by : (lifespan_at (next ∷ spans) p ≡ Some span → holds span t ≡ true → lifespan_at (next ∷ spans) t ≡ Some span) → (b : Bool) → holds before p ≡ b → lifespan_at (before ∷ next ∷ spans) t ≡ Some span
    by rest true e =
        let same = same_Some _ _ (sym (cond-true _ _ _ e) ∙ found) in
        cond-true _ _ _ (subst (λ x. holds x t ≡ true) (sym same) held) ∙ ap Some same
    by rest false e =
        let later = sym (cond-false _ _ _ e) ∙ found in
        let gap = starts_after before (next ∷ spans) p span after later in
        let low = (holds-true span t held).0 in
        cond-false _ _ _ (holds_after before t (omega (arith, gap, low))) ∙ rest later held

pub found-same : (spans : List Interval) (p t : ℕ) (span : Interval) → IsLife spans → lifespan_at spans p ≡ Some span → holds span t ≡ true → lifespan_at spans t ≡ Some span
found-same [] p t span life found held = absurd life
found-same (first ∷ spans) p t span life found held = found_later first spans p t span life found held

-- an instant between two others, where there is one
if_between-some : (first last at found : ℕ) → if_between first last at ≡ Some found → (first ≤ found) × (found ≤ last) × (at ≡ found)
if_between-some first last at found is =
    let made = cond_some (nat_le first at && nat_le at last) at found is in
    let parts = and_parts (nat_le first at) (nat_le at last) made.0 in
    let low = leb-true first at parts.0 in
    let high = leb-true at last parts.1 in
    let same = made.1 in
    (omega (arith, low, same), omega (arith, high, same), same)

if_between-none : (first last at : ℕ) → if_between first last at ≡ None → first ≤ at → at ≤ last → ⊥
if_between-none first last at none low high =
    none-some at (sym none ∙ cond-true _ _ _ (and_from (nat_le first at) (nat_le at last) (le-leb first at low) (le-leb at last high)))

-- the journey without hops for t, an instant of the lifespan, can have its other end at the instant `at`
abbrev CanStand : Kind → Interval → (t at : ℕ) → Type 0
CanStand Reach span t at = (start_of span ≤ at) × (at ≤ t)
CanStand Earliest span t at = (start_of span ≤ at) × (at ≤ t)
CanStand Cheapest span t at = (start_of span ≤ at) × (at ≤ t)
CanStand Fastest span t at = (start_of span ≤ at) × (at ≤ t)
CanStand Latest span t at = (t ≤ at) × (at < end_of span)

-- of these instants in the window it is the preferred one
record IsPreferredIn (kind : Kind) (from until : ℕ) (span : Interval) (t at : ℕ) : Type 0 where
  pub low : from ≤ at
  pub high : at < until
  pub stands : CanStand kind span t at
  pub preferred : (other : ℕ) → from ≤ other → other < until → CanStand kind span t other → IsPreferred kind at other

first-is : (from until : ℕ) (span : Interval) (t at : ℕ) → 0 < until → if_between 0 (min t (until - 1)) (max (start_of span) from) ≡ Some at → (from ≤ at) × (at < until) × (start_of span ≤ at) × (at ≤ t) × ((other : ℕ) → from ≤ other → start_of span ≤ other → at ≤ other)
first-is from until span t at some is =
    let parts = if_between-some 0 (min t (until - 1)) (max (start_of span) from) at is in
    let high = parts.1 in
    let same = parts.2 in
    (omega (arith, same), omega (arith, high, some), omega (arith, same), omega (arith, high), λ other low after. omega (arith, same, low, after))

first-none : (from until : ℕ) (span : Interval) (t at : ℕ) → if_between 0 (min t (until - 1)) (max (start_of span) from) ≡ None → from ≤ at → at < until → start_of span ≤ at → at ≤ t → ⊥
first-none from until span t at none low high after before =
    if_between-none 0 (min t (until - 1)) (max (start_of span) from) none (omega arith) (omega (arith, low, high, after, before))

standing-is : (kind : Kind) (from until : ℕ) (span : Interval) (t at : ℕ) → 0 < until → standing_from kind from until span t ≡ Some at → IsPreferredIn kind from until span t at
standing-is Reach from until span t at some is =
    let parts = first-is from until span t at some is in
    record { low = parts.0; high = parts.1; stands = (parts.2, parts.3); preferred = λ other low high stands. parts.4 other low stands.0 }
standing-is Earliest from until span t at some is =
    let parts = first-is from until span t at some is in
    record { low = parts.0; high = parts.1; stands = (parts.2, parts.3); preferred = λ other low high stands. parts.4 other low stands.0 }
standing-is Cheapest from until span t at some is =
    let parts = first-is from until span t at some is in
    record { low = parts.0; high = parts.1; stands = (parts.2, parts.3); preferred = λ other low high stands. parts.4 other low stands.0 }
standing-is Fastest from until span t at some is =
    let parts = if_between-some (max (start_of span) from) t (min t (until - 1)) at is in
    let low = parts.0 in
    let same = parts.2 in
    record {
      low = omega (arith, low);
      high = omega (arith, same, some);
      stands = (omega (arith, low), omega (arith, same));
      preferred = λ other after before stands. let order = stands.1 in omega (arith, same, before, order);
    }
standing-is Latest from until span t at some is =
    let parts = if_between-some (max t from) until (min (end_of span) until - 1) at is in
    let low = parts.0 in
    let same = parts.2 in
    let proper = span.proper.0 in
    record {
      low = omega (arith, low);
      high = omega (arith, same, some);
      stands = (omega (arith, low), omega (arith, same, some, proper));
      preferred = λ other after before stands. let inside = stands.1 in omega (arith, same, before, inside);
    }

standing-not : (kind : Kind) (from until : ℕ) (span : Interval) (t at : ℕ) → standing_from kind from until span t ≡ None → from ≤ at → at < until → CanStand kind span t at → ⊥
standing-not Reach from until span t at none low high stands = first-none from until span t at none low high stands.0 stands.1
standing-not Earliest from until span t at none low high stands = first-none from until span t at none low high stands.0 stands.1
standing-not Cheapest from until span t at none low high stands = first-none from until span t at none low high stands.0 stands.1
standing-not Fastest from until span t at none low high stands =
    let after = stands.0 in
    let before = stands.1 in
    if_between-none (max (start_of span) from) t (min t (until - 1)) none (omega (arith, low, high, after, before)) (omega arith)
standing-not Latest from until span t at none low high stands =
    let after = stands.0 in
    let inside = stands.1 in
    if_between-none (max t from) until (min (end_of span) until - 1) none (omega (arith, low, high, after, inside)) (omega arith)

module _ (lives : List (List Interval)) (lives_are : All IsLife lives) (v t : ℕ) (span : Interval) (found : lifespan_at (life_of lives v) t ≡ Some span) where
  life-here : IsLife (life_of lives v)
  life-here =
      ⊎_elim (λ (less : v < length lives). All-get_or IsLife lives v [] less lives_are)
      (λ (past : length lives ≤ v). absurd (none-some span (subst (λ spans. lifespan_at spans t ≡ Some span) (get_or_past lives v [] past) found)))
      (cases_lt v (length lives))

  -- who has waited until t began in its lifespan
  pub waited-within : (p : ℕ) → Waits (vertex_is_alive lives) v p t → holds span p ≡ true
  waited-within p waits = by (lifespan_at (life_of lives v) p) refl
    where
      alive : is_some (lifespan_at (life_of lives v) p) ≡ true
      alive = is_some-lifespan_at (life_of lives v) p ∙ waits-first (vertex_is_alive lives) v p t waits

      by : (o : Option Interval) → lifespan_at (life_of lives v) p ≡ o → holds span p ≡ true
      by None e = absurd (false≢true (sym (ap is_some e) ∙ alive))
      by (Some other) e =
          let now = waits-one_lifespan lives v p t other lives_are e waits in
          let same = same_Some _ _ (sym (found-same (life_of lives v) p t other life-here e now) ∙ found) in
          subst (λ x. holds x p ≡ true) same (lifespan_at-holds (life_of lives v) p other e)

  now : holds span t ≡ true
  now = lifespan_at-holds (life_of lives v) t span found

  waits-back : (p : ℕ) → start_of span ≤ p → p ≤ t → Waits (vertex_is_alive lives) v p t
  waits-back p after before =
      let here = holds-true span t now in
      let until = here.1 in
      waits_in_lifespan lives v t span found p t (holds-from span p after (omega (arith, before, until))) now before

  waits-on : (q : ℕ) → t ≤ q → q < end_of span → Waits (vertex_is_alive lives) v t q
  waits-on q after inside =
      let here = holds-true span t now in
      let from = here.0 in
      waits_in_lifespan lives v t span found t q now (holds-from span q (omega (arith, after, from)) inside) after

  waited : (p : ℕ) → Waits (vertex_is_alive lives) v p t → (start_of span ≤ p) × (p ≤ t)
  waited p waits = ((holds-true span p (waited-within p waits)).0, waits.order)

  waiting : (q : ℕ) → Waits (vertex_is_alive lives) v t q → (t ≤ q) × (q < end_of span)
  waiting q waits = (waits.order, (holds-true span q (waits-one_lifespan lives v t q span lives_are found waits)).1)

  module _ (IsHop : Hop → Type 0) where
    abbrev IsAsked : Kind → (at : ℕ) → Type 0
    IsAsked kind at = IsAskedFor (vertex_is_alive lives) IsHop kind v at [] v t

    asked-stands : (kind : Kind) (at : ℕ) → IsAsked kind at → CanStand kind span t at
    asked-stands Reach at leads = waited at leads.1
    asked-stands Earliest at leads = waited at leads.1
    asked-stands Cheapest at leads = waited at leads.1
    asked-stands Fastest at leads = waited at leads.1
    asked-stands Latest at leads = waiting at leads.1

    stands-asked : (kind : Kind) (at : ℕ) → CanStand kind span t at → IsAsked kind at
    stands-asked Reach at stands = (refl, waits-back at stands.0 stands.1)
    stands-asked Earliest at stands = (refl, waits-back at stands.0 stands.1)
    stands-asked Cheapest at stands = (refl, waits-back at stands.0 stands.1)
    stands-asked Fastest at stands = (refl, waits-back at stands.0 stands.1)
    stands-asked Latest at stands = (refl, waits-on at stands.0 stands.1)

    -- the instant that is given is one of the window at which a journey without hops has its end, and the preferred one
    pub standing-some : (kind : Kind) (from until at : ℕ) → 0 < until → standing_from kind from until span t ≡ Some at → (from ≤ at) × (at < until) × IsAskedFor (vertex_is_alive lives) IsHop kind v at [] v t × ((other : ℕ) → from ≤ other → other < until → IsAskedFor (vertex_is_alive lives) IsHop kind v other [] v t → IsPreferred kind at other)
    standing-some kind from until at some is =
        let made = standing-is kind from until span t at some is in (
          made.low,
          made.high,
          stands-asked kind at made.stands,
          λ other low high leads. made.preferred other low high (asked-stands kind other leads),
        )

    -- where none is given, there is none
    pub standing-none : (kind : Kind) (from until : ℕ) → standing_from kind from until span t ≡ None → (at : ℕ) → from ≤ at → at < until → IsAskedFor (vertex_is_alive lives) IsHop kind v at [] v t → ⊥
    standing-none kind from until none at low high leads =
        standing-not kind from until span t at none low high (asked-stands kind at leads)

-- the preferred instant has the better value of journeys without hops
preferred-good : (kind : Kind) (p q : ℕ) → IsPreferred kind p q → IsAsGood kind (journey_value kind p []) (journey_value kind q [])
preferred-good Reach p q preferred = omega arith
preferred-good Earliest p q preferred = preferred
preferred-good Cheapest p q preferred = omega arith
preferred-good Fastest p q preferred = preferred
preferred-good Latest p q preferred = preferred

asked-same : (alive : ℕ → ℕ → Bool) (IsHop : Hop → Type 0) (kind : Kind) (vertex at v t : ℕ) → IsAskedFor alive IsHop kind vertex at [] v t → vertex ≡ v
asked-same alive IsHop Reach vertex at v t leads = leads.0
asked-same alive IsHop Earliest vertex at v t leads = leads.0
asked-same alive IsHop Cheapest vertex at v t leads = leads.0
asked-same alive IsHop Fastest vertex at v t leads = leads.0
asked-same alive IsHop Latest vertex at v t leads = sym leads.0

asked-alive : (alive : ℕ → ℕ → Bool) (IsHop : Hop → Type 0) (kind : Kind) (vertex at v t : ℕ) → IsAskedFor alive IsHop kind vertex at [] v t → IsTrue (alive v t)
asked-alive alive IsHop Reach vertex at v t leads = waits-last alive v at t leads.1
asked-alive alive IsHop Earliest vertex at v t leads = waits-last alive v at t leads.1
asked-alive alive IsHop Cheapest vertex at v t leads = waits-last alive v at t leads.1
asked-alive alive IsHop Fastest vertex at v t leads = waits-last alive v at t leads.1
asked-alive alive IsHop Latest vertex at v t leads = subst (λ w. IsTrue (alive w t)) (sym leads.0) (waits-first alive vertex t at leads.1)

-- a value of journeys of fewer hops than one is that of one without hops
pub value-standing : (alive : ℕ → ℕ → Bool) (IsHop : Hop → Type 0) (query : PathQuery) (v t x : ℕ) → IsValueWithin alive IsHop query 1 v t x → (at : ℕ) × (query.from ≤ at) × (at < query.until) × IsAskedFor alive IsHop query.kind query.vertex at [] v t × (journey_value query.kind at [] ≡ x)
value-standing alive IsHop query v t x value = by value.hops value.leads value.short value.is
  where
    by : (hops : List Hop) → IsAskedFor alive IsHop query.kind query.vertex value.at hops v t → length hops < 1 → journey_value query.kind value.at hops ≡ x → (at : ℕ) × (query.from ≤ at) × (at < query.until) × IsAskedFor alive IsHop query.kind query.vertex at [] v t × (journey_value query.kind at [] ≡ x)
    by [] leads short is = (value.at, value.from, value.until, leads, is)
    by (hop ∷ hops) leads short is = absurd (omega (arith, short))

module _ (lives : List (List Interval)) (lives_are : All IsLife lives) (IsHop : Hop → Type 0) (query : PathQuery) where
  abbrev Best : (v t x : ℕ) → Type 0
  Best v t x = IsBestOverAll (vertex_is_alive lives) IsHop query v t (Some x)

  -- where a journey without hops is, there is a preferred one
  pub standing-start : (v t x : ℕ) → IsValueWithin (vertex_is_alive lives) IsHop query 1 v t x → (at : ℕ) × IsPreferredStart (vertex_is_alive lives) IsHop query at [] v t
  standing-start v t x value = by (lifespan_at (life_of lives v) t) refl
    where
      alive : ℕ → ℕ → Bool
      alive = vertex_is_alive lives

      one : (at : ℕ) × (query.from ≤ at) × (at < query.until) × IsAskedFor (vertex_is_alive lives) IsHop query.kind query.vertex at [] v t × (journey_value query.kind at [] ≡ x)
      one = value-standing (vertex_is_alive lives) IsHop query v t x value

      same : query.vertex ≡ v
      same = asked-same (vertex_is_alive lives) IsHop query.kind query.vertex one.0 v t one.3

      lives_then : is_some (lifespan_at (life_of lives v) t) ≡ true
      lives_then = is_some-lifespan_at (life_of lives v) t ∙ asked-alive (vertex_is_alive lives) IsHop query.kind query.vertex one.0 v t one.3

      to_here : (at : ℕ) → IsAskedFor (vertex_is_alive lives) IsHop query.kind query.vertex at [] v t → IsAskedFor (vertex_is_alive lives) IsHop query.kind v at [] v t
      to_here at leads = subst (λ w. IsAskedFor (vertex_is_alive lives) IsHop query.kind w at [] v t) same leads

      by-instant : (span : Interval) → lifespan_at (life_of lives v) t ≡ Some span → (o : Option ℕ) → standing_from query.kind query.from query.until span t ≡ o → (at : ℕ) × IsPreferredStart (vertex_is_alive lives) IsHop query at [] v t
      by-instant span found None e =
          absurd (standing-none lives lives_are v t span found IsHop query.kind query.from query.until e one.0 one.1 one.2 (to_here one.0 one.3))
      by-instant span found (Some at) e =
          let before = one.2 in
          let made = standing-some lives lives_are v t span found IsHop query.kind query.from query.until at (omega (arith, before)) e in (
            at,
            record {
              from = made.0;
              until = made.1;
              leads = subst (λ w. IsAskedFor (vertex_is_alive lives) IsHop query.kind w at [] v t) (sym same) made.2;
              preferred = λ other low high leads. made.3 other low high (to_here other leads);
            },
          )

      by : (o : Option Interval) → lifespan_at (life_of lives v) t ≡ o → (at : ℕ) × IsPreferredStart (vertex_is_alive lives) IsHop query at [] v t
      by None e = absurd (false≢true (sym (ap is_some e) ∙ lives_then))
      by (Some span) e = by-instant span e (standing_from query.kind query.from query.until span t) refl

  -- no journey without hops leads to or from another vertex
  pub standing-elsewhere : (v t : ℕ) → (query.vertex ≡ v → ⊥) → IsBestWithoutHops (vertex_is_alive lives) IsHop query Best v t → ⊥
  standing-elsewhere v t far standing =
      let one = value-standing (vertex_is_alive lives) IsHop query v t standing.0 standing.2 in
      far (asked-same (vertex_is_alive lives) IsHop query.kind query.vertex one.0 v t one.3)

  -- the vertex is alive where one has the best value
  pub standing-alive : (v t : ℕ) → IsBestWithoutHops (vertex_is_alive lives) IsHop query Best v t → IsTrue (vertex_is_alive lives v t)
  standing-alive v t standing =
      let one = value-standing (vertex_is_alive lives) IsHop query v t standing.0 standing.2 in
      asked-alive (vertex_is_alive lives) IsHop query.kind query.vertex one.0 v t one.3

  module _ (v t b : ℕ) (here : query.vertex ≡ v) (span : Interval) (found : lifespan_at (life_of lives v) t ≡ Some span) (best : IsBestOverAll (vertex_is_alive lives) IsHop query v t (Some b)) where
    -- there is a value, so the window holds an instant
    window : 0 < query.until
    window = let before = best.0.1.until in omega (arith, before)

    value-here : (at : ℕ) → query.from ≤ at → at < query.until → IsAskedFor (vertex_is_alive lives) IsHop query.kind v at [] v t → IsValueWithin (vertex_is_alive lives) IsHop query 1 v t (journey_value query.kind at [])
    value-here at from until leads = record {
      at = at;
      hops = [];
      from = from;
      until = until;
      leads = subst (λ w. IsAskedFor (vertex_is_alive lives) IsHop query.kind w at [] v t) (sym here) leads;
      short = omega arith;
      is = refl;
    }

    -- the best value is that of a journey without hops where the preferred one of these has it
    pub standing-best : (at : ℕ) → standing_from query.kind query.from query.until span t ≡ Some at → journey_value query.kind at [] ≡ b → IsBestWithoutHops (vertex_is_alive lives) IsHop query Best v t
    standing-best at is value =
        let made = standing-some lives lives_are v t span found IsHop query.kind query.from query.until at window is in
        (b, best, subst (IsValueWithin (vertex_is_alive lives) IsHop query 1 v t) value (value-here at made.0 made.1 made.2))

    -- and only there
    pub best-standing : IsBestWithoutHops (vertex_is_alive lives) IsHop query Best v t → (at : ℕ) × (standing_from query.kind query.from query.until span t ≡ Some at) × (journey_value query.kind at [] ≡ b)
    best-standing standing = by (standing_from query.kind query.from query.until span t) refl
      where
        one : (at : ℕ) × (query.from ≤ at) × (at < query.until) × IsAskedFor (vertex_is_alive lives) IsHop query.kind query.vertex at [] v t × (journey_value query.kind at [] ≡ standing.0)
        one = value-standing (vertex_is_alive lives) IsHop query v t standing.0 standing.2

        leads : IsAskedFor (vertex_is_alive lives) IsHop query.kind v one.0 [] v t
        leads = subst (λ w. IsAskedFor (vertex_is_alive lives) IsHop query.kind w one.0 [] v t) here one.3

        by : (o : Option ℕ) → standing_from query.kind query.from query.until span t ≡ o → (at : ℕ) × (standing_from query.kind query.from query.until span t ≡ Some at) × (journey_value query.kind at [] ≡ b)
        by None e =
            absurd (standing-none lives lives_are v t span found IsHop query.kind query.from query.until e one.0 one.1 one.2 leads)
        by (Some at) e =
            let made = standing-some lives lives_are v t span found IsHop query.kind query.from query.until at window e in
            let good = preferred-good query.kind at one.0 (made.3 one.0 one.1 one.2 leads) in
            let is = one.4 ∙ best-one (vertex_is_alive lives) IsHop query v t standing.0 b standing.1 best in
            let back = best.1 (journey_value query.kind at []) (1, value-here at made.0 made.1 made.2) in
            (at, e, as_good-one query.kind (journey_value query.kind at []) b (subst (IsAsGood query.kind (journey_value query.kind at [])) is good) back)
