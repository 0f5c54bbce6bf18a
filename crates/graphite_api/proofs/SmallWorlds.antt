-- Tests over the instants and the hops of a small world, and what they decide.
use Rattle.std.proofs.Common.{◌≡◌, ◌≢◌, refl, sym, ap, subst, ◌∙◌, ℕ, zero, suc, ◌+◌, ◌<◌, ◌≤◌, ◌==◌, ◌&&◌, ◌||◌, Bool, true, false, not, IsTrue, List, [], ◌∷◌, length, Option, None, Some, nat_le, nat_lt, arith, inl, inr, ⊎_elim}
use Rattle.std.specs.List.{Contains, list_all}
use Rattle.std.proofs.lemmas.List.Sums.{AllPass-from_list_all}
use Rattle.std.proofs.lemmas.Option.{none-some, same_Some}
use Rattle.std.proofs.lemmas.Bool.{and_parts, and_from, or_cases, cases_lt, eqb-true, eq-eqb, leb-true, ltb-true, false≢true}
use Rattle.graphite_api.specs.declared.kind.Kind.{Kind}
use Rattle.graphite_api.specs.declared.kind.Kind.TheVariants.{Latest}
use Rattle.graphite_api.specs.declared.path_query.PathQuery.{PathQuery}
use Rattle.graphite_api.specs.declared.duration.Duration.{Duration}
use Rattle.graphite_api.specs.Hop.{Hop, arrival, Waits}
use Rattle.graphite_api.specs.Values.{Values}
use Rattle.graphite_api.specs.Attained.{Attains, IsAttainedWithin, IsBestAttained}
use Rattle.graphite_api.specs.Duration.{IsDurationOf}
use Rattle.graphite_api.specs.Journey.{IsJourney, journey_value}
use Rattle.graphite_api.specs.Written.{value_after, CanEnd, IsBefore, IsBestWithoutHops}
use Rattle.graphite_api.proofs.BestLemmas.{IsBest-is}
use Rattle.graphite_api.proofs.JourneyLemmas.{asked-journey, journey-asked}
use Rattle.graphite_api.proofs.ListedHops.{Decides}
use Rattle.graphite_api.proofs.WaitLemmas.{waits-last}

-- whether a test holds of each number below n
abbrev pub all_below : (ℕ → Bool) → ℕ → Bool
all_below test zero = true
all_below test (suc n) = test n && all_below test n

pub all_below-at : (test : ℕ → Bool) (n t : ℕ) → all_below test n ≡ true → t < n → test t ≡ true
all_below-at test zero t pass less = absurd (omega (arith, less))
all_below-at test (suc n) t pass less =
    let parts = and_parts (test n) (all_below test n) pass in
    ⊎_elim
    (λ (low : t < n). all_below-at test n t parts.1 low)
    (λ (ge : n ≤ t). let same : n ≡ t = omega (arith, less, ge) in subst (λ m. test m ≡ true) same parts.0)
    (cases_lt t n)

-- what a test of each element of a list says of one of them
pub list_all-at : {X : Type 0} (test : X → Bool) (xs : List X) (x : X) → list_all test xs ≡ true → Contains xs x → test x ≡ true
list_all-at test xs x pass h = subst (λ y. test y ≡ true) h.2 (AllPass-from_list_all test xs pass h.0 x h.1)

-- whether a best value, if there is one, is at least as long before its instant as the duration, and where it is as long,
-- the duration does not arrive later
abbrev pub is_no_shorter : Duration → ℕ → Option ℕ → Bool
is_no_shorter duration t None = true
is_no_shorter duration t (Some x) =
    nat_lt (x + duration.length) t || ((x + duration.length == t) && nat_le duration.arrive t)

is_no_shorter-is : (duration : Duration) (t x : ℕ) → is_no_shorter duration t (Some x) ≡ true → (x + duration.length ≤ t) × (t ≡ x + duration.length → duration.arrive ≤ t)
is_no_shorter-is duration t x pass =
    ⊎_elim
    (λ (longer : IsTrue (nat_lt (x + duration.length) t)).
    let less = ltb-true (x + duration.length) t longer in
    (omega (arith, less), λ is. absurd (omega (arith, less, is))))
    (λ (other : IsTrue ((x + duration.length == t) && nat_le duration.arrive t)).
    let parts = and_parts (x + duration.length == t) (nat_le duration.arrive t) other in
    let same = eqb-true (x + duration.length) t parts.0 in
    (omega (arith, same), λ is. leb-true duration.arrive t parts.1))
    (or_cases (nat_lt (x + duration.length) t) ((x + duration.length == t) && nat_le duration.arrive t) pass)

-- the duration of a vertex that has no value from the instant h on
pub duration_by_test : (best : ℕ → Option ℕ) (duration : Duration) (h : ℕ) → best duration.arrive ≡ Some duration.start → duration.arrive ≡ duration.start + duration.length → ((t x : ℕ) → best t ≡ Some x → t < h) → all_below (λ t. is_no_shorter duration t (best t)) h ≡ true → IsDurationOf (λ t x. best t ≡ Some x) (Some duration)
duration_by_test best duration h has length below pass = record {
  has = has;
  length = length;
  shortest = λ t x is. (longer t x is).0;
  first = λ t x is. (longer t x is).1;
}
  where
    longer : (t x : ℕ) → best t ≡ Some x → (x + duration.length ≤ t) × (t ≡ x + duration.length → duration.arrive ≤ t)
    longer t x is =
        is_no_shorter-is duration t x
        (subst (λ o. is_no_shorter duration t o ≡ true) is (all_below-at (λ t. is_no_shorter duration t (best t)) h t pass (below t x is)))

module _ (values : Values) (alive : ℕ → ℕ → Bool) (IsHop : Hop → Type 0) (start : ℕ → ℕ → Option ℕ) (starts : (v t x : ℕ) → start v t ≡ Some x → IsTrue (alive v t)) where
  -- who starts only where it is alive has values only there
  attains-alive : (hops : List Hop) (v t x : ℕ) → Attains values alive IsHop start hops v t x → IsTrue (alive v t)
  attains-alive [] v t x attains = starts v t x attains
  attains-alive (hop ∷ hops) v t x attains = waits-last alive v (arrival hop) t attains.2

  pub best-alive : (k v t x : ℕ) (o : Option ℕ) → IsBestAttained values alive IsHop start k v t o → o ≡ Some x → IsTrue (alive v t)
  best-alive k v t x o best is =
      let attained = IsBest-is (λ x y. IsTrue (values.good x y)) (IsAttainedWithin values alive IsHop start k v t) o x is best in
      attains-alive attained.0 v t x attained.2

-- whether a hop makes a value of another
abbrev pub gives_by : Kind → Hop → (before after : Option ℕ) → Bool
gives_by kind hop None after = false
gives_by kind hop (Some y) None = false
gives_by kind hop (Some y) (Some x) = x == value_after kind y hop

gives_by-is : (kind : Kind) (hop : Hop) (before after : Option ℕ) → gives_by kind hop before after ≡ true → (y : ℕ) × (before ≡ Some y) × (after ≡ Some (value_after kind y hop))
gives_by-is kind hop None after pass = absurd (false≢true pass)
gives_by-is kind hop (Some y) None pass = absurd (false≢true pass)
gives_by-is kind hop (Some y) (Some x) pass = (y, refl, ap Some (eqb-true x (value_after kind y hop) pass))

is-gives_by : (kind : Kind) (hop : Hop) (before after : Option ℕ) (y : ℕ) → before ≡ Some y → after ≡ Some (value_after kind y hop) → gives_by kind hop before after ≡ true
is-gives_by kind hop None after y first then = absurd (none-some y first)
is-gives_by kind hop (Some z) None y first then = absurd (none-some (value_after kind y hop) then)
is-gives_by kind hop (Some z) (Some x) y first then =
    eq-eqb x (value_after kind z hop)
    (same_Some x (value_after kind y hop) then ∙ ap (λ y. value_after kind y hop) (sym (same_Some z y first)))

-- whether a hop is before another, by edge and then by departure
abbrev pub is_before : Hop → Hop → Bool
is_before hop other = nat_lt hop.edge other.edge || ((hop.edge == other.edge) && nat_le hop.depart other.depart)

is_before-is : (hop other : Hop) → is_before hop other ≡ true → IsBefore hop other
is_before-is hop other pass =
    ⊎_elim
    (λ (less : IsTrue (nat_lt hop.edge other.edge)). inl (ltb-true hop.edge other.edge less))
    (λ (same : IsTrue ((hop.edge == other.edge) && nat_le hop.depart other.depart)).
    let parts = and_parts (hop.edge == other.edge) (nat_le hop.depart other.depart) same in
    inr (eqb-true hop.edge other.edge parts.0, leb-true hop.depart other.depart parts.1))
    (or_cases (nat_lt hop.edge other.edge) ((hop.edge == other.edge) && nat_le hop.depart other.depart) pass)

-- whether a hop can be the last one to v at t
abbrev pub ends_by : Kind → (ℕ → ℕ → ℕ → Bool) → (ℕ → ℕ → Option ℕ) → (v t : ℕ) → Hop → Bool
ends_by kind waits best v t hop =
    (hop.to == v) && (waits v (arrival hop) t && gives_by kind hop (best hop.from hop.depart) (best v t))

module _ (kind : Kind) (alive : ℕ → ℕ → Bool) (waits : ℕ → ℕ → ℕ → Bool) (decides : Decides alive waits) (hops : List Hop) (best : ℕ → ℕ → Option ℕ) where
  abbrev pub Ends : (v t : ℕ) → Hop → Type 0
  Ends v t hop = CanEnd alive (Contains hops) kind (λ v t x. best v t ≡ Some x) v t hop

  pub ends_by-can : (v t : ℕ) (hop : Hop) → Contains hops hop → ends_by kind waits best v t hop ≡ true → Ends v t hop
  ends_by-can v t hop among pass =
      let parts = and_parts (hop.to == v) (waits v (arrival hop) t && gives_by kind hop (best hop.from hop.depart) (best v t)) pass in
      let rest = and_parts (waits v (arrival hop) t) (gives_by kind hop (best hop.from hop.depart) (best v t)) parts.1 in
      let gives = gives_by-is kind hop (best hop.from hop.depart) (best v t) rest.1 in
      record {
        hops = among;
        to = eqb-true hop.to v parts.0;
        waits = decides.right v (arrival hop) t rest.0;
        before = gives.0;
        best_before = gives.1;
        gives = gives.2;
      }

  can-ends_by : (v t : ℕ) (hop : Hop) → Ends v t hop → ends_by kind waits best v t hop ≡ true
  can-ends_by v t hop can =
      and_from (hop.to == v) (waits v (arrival hop) t && gives_by kind hop (best hop.from hop.depart) (best v t)) (eq-eqb hop.to v can.to)
      (and_from (waits v (arrival hop) t) (gives_by kind hop (best hop.from hop.depart) (best v t)) (decides.all v (arrival hop) t can.waits)
      (is-gives_by kind hop (best hop.from hop.depart) (best v t) can.before can.best_before can.gives))

  -- a hop is the first that can be the last one, where each hop that can be is not before it
  pub first_by_test : (v t : ℕ) (hop : Hop) → list_all (λ other. not (ends_by kind waits best v t other) || is_before hop other) hops ≡ true → (other : Hop) → Ends v t other → IsBefore hop other
  first_by_test v t hop pass other can =
      is_before-is hop other
      (subst (λ b. (not b || is_before hop other) ≡ true) (can-ends_by v t other can)
      (list_all-at (λ other. not (ends_by kind waits best v t other) || is_before hop other) hops other pass can.hops))

module _ (alive : ℕ → ℕ → Bool) (IsHop : Hop → Type 0) (query : PathQuery) (other : query.kind ≢ Latest) (Best : ℕ → ℕ → ℕ → Type 0) where
  -- no journey without hops leads to another vertex
  pub not_standing : (v t : ℕ) → query.vertex ≢ v → IsBestWithoutHops alive IsHop query Best v t → ⊥
  not_standing v t far standing = by standing.2.hops (asked-journey alive IsHop query.kind other query.vertex standing.2.at standing.2.hops v t standing.2.leads) standing.2.short
    where
      by : (hops : List Hop) → IsJourney alive IsHop query.vertex standing.2.at hops v t → length hops < 1 → ⊥
      by [] leads short = far leads.0
      by (hop ∷ hops) leads short = absurd (omega (arith, short))

  -- who waits at the query's vertex from an instant of the window on has the best value, where its own is the best
  pub stands : (at t : ℕ) → query.from ≤ at → at < query.until → Waits alive query.vertex at t → Best query.vertex t (journey_value query.kind at []) → IsBestWithoutHops alive IsHop query Best query.vertex t
  stands at t from until waits best = (
    journey_value query.kind at [],
    best,
    record {
      at = at;
      hops = [];
      from = from;
      until = until;
      leads = journey-asked alive IsHop query.kind other query.vertex at [] query.vertex t (refl, waits);
      short = omega arith;
      is = refl;
    },
  )
