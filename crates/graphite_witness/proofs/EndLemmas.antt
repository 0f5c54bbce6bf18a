-- Which hops can be the last one of a best journey, or the first of a latest one, by the values of an answered question.
use Rattle.std.proofs.Common.{◌≡◌, ◌≢◌, ◌↔◌, refl, sym, ap, subst, ◌∙◌, ℕ, suc, ◌+◌, ◌<◌, ◌≤◌, ◌==◌, nat_le, Bool, true, false, IsTrue, List, [], ◌∷◌, ◌++◌, length, reverse, get_or, Option, None, Some, is_some, Ordering, arith, inl, inr, ◌⊎◌, ⊎_elim}
use Rattle.std.specs.List.{Contains, AllWithin}
use Rattle.std.specs.List.Sorted.{IsPermutation, IsSorted}
use Rattle.std.specs.declared.cmp.Ordering.TheVariants.{Less, Equal}
use Rattle.std.specs.Ordering.{is_lt, nat_cmp, ordering_then}
use Rattle.std.proofs.lemmas.Bool.{and_parts, and_from, eqb-true, eq-eqb, leb-true, le-leb, lt-ltb, le-ltb, cond-true, cond-false, cases_lt, cases_order, false≢true}
use Rattle.std.proofs.lemmas.List.{reverse-reverse, get_or_default}
use Rattle.std.proofs.lemmas.List.Elements.{All-contains}
use Rattle.std.proofs.lemmas.List.Kept.{IsSortedBy-filter}
use Rattle.std.proofs.lemmas.List.Sorted.{Contains-permutation, IsPermutation-sym, ranks_by, sorted_far}
use Rattle.graphite_time.specs.declared.interval.Interval.{Interval}
use Rattle.graphite_time.specs.Interval.{start_of, holds}
use Rattle.graphite_time.proofs.LifeLemmas.{holds-true, holds-from}
use Rattle.graphite_part.specs.declared.piece.Piece.{Piece}
use Rattle.graphite_warp.proofs.SortedLemmas.{IsSorted-sorted}
use Rattle.graphite_api.specs.declared.arc.Arc.{Arc}
use Rattle.graphite_api.specs.declared.kind.Kind.{Kind}
use Rattle.graphite_api.specs.declared.kind.Kind.TheVariants.{Reach, Earliest, Cheapest, Fastest, Latest}
use Rattle.graphite_api.specs.declared.path_query.PathQuery.{PathQuery}
use Rattle.graphite_api.specs.ArcOrder.{arc_order}
use Rattle.graphite_api.specs.Hop.{Hop, arrival, Waits}
use Rattle.graphite_api.specs.Journey.{IsJourney, IsAskedFor, IsAsGood, journey_value, IsValueWithin, IsBestOverAll}
use Rattle.graphite_api.specs.Table.{vertex_is_alive, IsTable, arcs_out}
use Rattle.graphite_api.specs.TableHops.{hop_along, IsHopOn, StaysAt}
use Rattle.graphite_api.specs.Written.{value_after, CanEnd, CanBegin, IsBefore, IsBeforeLate, IsBestWithoutHops}
use Rattle.graphite_api.proofs.BestLemmas.{IsBest-at, IsBest-one}
use Rattle.graphite_api.proofs.JourneyLemmas.{reverse-cons, journey-more, journey-last, asked-journey, journey-asked, as_good-one}
use Rattle.graphite_api.proofs.MemberLemmas.{Contains-filter, filter-Contains}
use Rattle.graphite_api.proofs.StayLemmas.{stay-arrival, stay-waits, waits-stay}
use Rattle.graphite_api.proofs.TableLemmas.{arc_total}
use Rattle.graphite_api.proofs.WrittenLemmas.{after-more, best-one}
use Rattle.graphite_witness.specs.Answered.{value_for, IsAnswered}
use Rattle.graphite_witness.specs.Ends.{becomes, can_end, can_begin}
use Rattle.graphite_witness.specs.Incoming.{arcs_into, AreByEdge, ComesFirst}

-- x is the best value over all journeys on the table, and the hop can be the last or the first one of such a journey
abbrev pub IsBestOn : List (List Interval) → List Arc → PathQuery → (v t x : ℕ) → Type 0
IsBestOn lives arcs query v t x = IsBestOverAll (vertex_is_alive lives) (IsHopOn arcs) query v t (Some x)

abbrev pub CanEndOn : List (List Interval) → List Arc → PathQuery → (v t : ℕ) → Hop → Type 0
CanEndOn lives arcs query v t hop = CanEnd (vertex_is_alive lives) (IsHopOn arcs) query.kind (IsBestOn lives arcs query) v t hop

abbrev pub CanBeginOn : List (List Interval) → List Arc → PathQuery → (v t : ℕ) → Hop → Type 0
CanBeginOn lives arcs query v t hop = CanBegin (vertex_is_alive lives) (IsHopOn arcs) (IsBestOn lives arcs query) v t hop

-- no hop along the arc can be the last one, or the first one
abbrev pub NoneEnds : List (List (Piece (Option ℕ))) → Kind → (t x : ℕ) → Arc → Type 0
NoneEnds values kind t x arc = (d : ℕ) → IsTrue (can_end values kind t x arc d) → ⊥

abbrev pub NoneBegins : List (List (Piece (Option ℕ))) → (x : ℕ) → Arc → Type 0
NoneBegins values x arc = IsTrue (can_begin values x arc) → ⊥

-- a value that becomes x is there
becomes-some : (kind : Kind) (x : ℕ) (hop : Hop) (o : Option ℕ) → becomes kind x hop o ≡ true → (y : ℕ) × (o ≡ Some y) × (value_after kind y hop ≡ x)
becomes-some kind x hop None test = absurd (false≢true test)
becomes-some kind x hop (Some y) test = (y, refl, eqb-true (value_after kind y hop) x test)

some-is : (o : Option ℕ) → is_some o ≡ true → (y : ℕ) × (o ≡ Some y)
some-is None test = absurd (false≢true test)
some-is (Some y) test = (y, refl)

module _ (lives : List (List Interval)) (arcs : List Arc) (query : PathQuery) (values : List (List (Piece (Option ℕ)))) (answered : IsAnswered lives arcs query values) where
  -- the best value is the one that is kept
  pub value_for-Best : (v t x : ℕ) → value_for values v t ≡ Some x → IsBestOn lives arcs query v t x
  value_for-Best v t x is = subst (IsBestOverAll (vertex_is_alive lives) (IsHopOn arcs) query v t) is (answered.best v t)

  pub Best-value_for : (v t x : ℕ) → IsBestOn lives arcs query v t x → value_for values v t ≡ Some x
  Best-value_for v t x best =
      IsBest-one (IsAsGood query.kind) (λ x. (k : ℕ) × IsValueWithin (vertex_is_alive lives) (IsHopOn arcs) query k v t x) (value_for values v t) (Some x) (as_good-one query.kind) (answered.best v t) best

  -- a hop along an arc
  hop-on : (arc : Arc) (d : ℕ) → Contains arcs arc → holds arc.over d ≡ true → IsHopOn arcs (hop_along arc d)
  hop-on arc d among held = record { arc = arc; among = among; held = held; is = refl }

  module _ (table : IsTable lives arcs) (arc : Arc) (among : Contains arcs arc) (v t x : ℕ) (best : IsBestOn lives arcs query v t x) where
    stays : StaysAt lives arc
    stays = All-contains (StaysAt lives) arcs arc answered.stays among

    can_end-CanEnd : (d : ℕ) → arc.to ≡ v → IsTrue (can_end values query.kind t x arc d) → IsTrue (holds arc.over d) × CanEndOn lives arcs query v t (hop_along arc d)
    can_end-CanEnd d to test =
        let last = and_parts _ (becomes query.kind x (hop_along arc d) (value_for values arc.from d)) test in
        let order = and_parts _ (nat_le (d + arc.time) t) last.0 in
        let over = and_parts (holds arc.over d) (holds arc.stay t) order.0 in
        let before = becomes-some query.kind x (hop_along arc d) (value_for values arc.from d) last.1 in
        let arrives = stay-arrival lives arc stays d over.0 in (
          over.0,
          record {
            hops = hop-on arc d among over.0;
            to = to;
            waits = subst (λ w. Waits (vertex_is_alive lives) w (d + arc.time) t) to (stay-waits lives arc stays (d + arc.time) t arrives (leb-true _ _ order.1) over.1);
            before = before.0;
            best_before = value_for-Best arc.from d before.0 before.1;
            gives = subst (IsBestOn lives arcs query v t) (sym before.2) best;
          },
        )

    CanEnd-can_end : (d : ℕ) → IsTrue (holds arc.over d) → CanEndOn lives arcs query v t (hop_along arc d) → IsTrue (can_end values query.kind t x arc d)
    CanEnd-can_end d held can =
        let arrives = stay-arrival lives arc stays d held in
        let waits = subst (λ w. Waits (vertex_is_alive lives) w (d + arc.time) t) (sym can.to) can.waits in
        let stay = waits-stay lives arc stays (d + arc.time) t table.lives_are arrives waits in
        let same = best-one (vertex_is_alive lives) (IsHopOn arcs) query v t (value_after query.kind can.before (hop_along arc d)) x can.gives best in
        let value = ap (becomes query.kind x (hop_along arc d)) (Best-value_for arc.from d can.before can.best_before) ∙ eq-eqb _ _ same in
        and_from _ _ (and_from _ _ (and_from _ _ held stay) (le-leb _ _ waits.order)) value

    -- The test of the last hop is right, at an instant of the arc. (Along another arc of the edge the hop may be there at others.)
    pub ends : (d : ℕ) → arc.to ≡ v
        → IsTrue (can_end values query.kind t x arc d)
        ↔ (IsTrue (holds arc.over d) × CanEndOn lives arcs query v t (hop_along arc d))
    ends d to = (can_end-CanEnd d to, λ can. CanEnd-can_end d can.0 can.1)

    -- and so is the test of the first hop, where the vertex waits for it
    pub begins : arc.from ≡ v
        → (IsTrue (can_begin values x arc) × Waits (vertex_is_alive lives) v t x)
        ↔ (IsTrue (holds arc.over x) × CanBeginOn lives arcs query v t (hop_along arc x))
    begins from = (
      λ can. (
          let parts = and_parts (holds arc.over x) (is_some (value_for values arc.to (x + arc.time))) can.0 in
          let after = some-is (value_for values arc.to (x + arc.time)) parts.1 in (
            parts.0,
            record {
              hops = hop-on arc x among parts.0;
              from = from;
              waits = can.1;
              gives = best;
              after = after.0;
              best_after = value_for-Best arc.to (x + arc.time) after.0 after.1;
            },
          )
          ),
      λ can. (
        and_from _ _ can.0 (ap is_some (Best-value_for arc.to (x + arc.time) can.1.after can.1.best_after)),
        can.1.waits,
      ),
    )

-- a list is empty, or has a last element
last_or_none : {X : Type 0} (xs : List X) → (xs ≡ []) ⊎ ((rest : List X) × (x : X) × (xs ≡ rest ++ x ∷ []))
last_or_none {X} xs = by (reverse xs) refl
  where
    by : (back : List X) → reverse xs ≡ back → (xs ≡ []) ⊎ ((rest : List X) × (x : X) × (xs ≡ rest ++ x ∷ []))
    by [] e = inl (sym (reverse-reverse xs) ∙ ap reverse e)
    by (x ∷ back) e = inr (reverse back, x, sym (reverse-reverse xs) ∙ ap reverse e ∙ reverse-cons x back)

-- the better value stays the better by one hop more
after-rises : (kind : Kind) (x y : ℕ) (hop : Hop) → IsAsGood kind x y → IsAsGood kind (value_after kind x hop) (value_after kind y hop)
after-rises Reach x y hop good = omega arith
after-rises Earliest x y hop good = omega arith
after-rises Cheapest x y hop good = omega (arith, good)
after-rises Fastest x y hop good = good
after-rises Latest x y hop good = good

-- Where no journey without hops has the best value, a hop can be the last one, and of a latest departure the first one.
module _ (alive : ℕ → ℕ → Bool) (IsHop : Hop → Type 0) (query : PathQuery) (best : ℕ → ℕ → Option ℕ) (are : (v t : ℕ) → IsBestOverAll alive IsHop query v t (best v t)) where
  abbrev TheBest : (v t x : ℕ) → Type 0
  TheBest v t x = IsBestOverAll alive IsHop query v t (Some x)

  abbrev AnyValue : (v t x : ℕ) → Type 0
  AnyValue v t x = (k : ℕ) × IsValueWithin alive IsHop query k v t x

  -- where there is a value, there is a best one, which is as good
  best-at : (v t y : ℕ) → AnyValue v t y → (x : ℕ) × TheBest v t x × IsAsGood query.kind x y
  best-at v t y value =
      let found = IsBest-at (IsAsGood query.kind) (AnyValue v t) (best v t) y value (are v t) in
      (found.0, subst (IsBestOverAll alive IsHop query v t) found.1 (are v t), found.2)

  -- the best value is that of some hops from or until an instant of the window
  module _ (v t x : ℕ) (top : TheBest v t x) (none : IsBestWithoutHops alive IsHop query TheBest v t → ⊥) where
    abbrev at : ℕ
    at = top.0.1.at

    value-of : (u p : ℕ) (hops : List Hop) → IsAskedFor alive IsHop query.kind query.vertex at hops u p → AnyValue u p (journey_value query.kind at hops)
    value-of u p hops leads =
        (suc (length hops), record { at = at; hops = hops; from = top.0.1.from; until = top.0.1.until; leads = leads; short = omega arith; is = refl })

    not_empty : (hops : List Hop) → IsAskedFor alive IsHop query.kind query.vertex at hops v t → journey_value query.kind at hops ≡ x → hops ≡ [] → ⊥
    not_empty hops leads is empty = none (
      x,
      top,
      record {
        at = at;
        hops = [];
        from = top.0.1.from;
        until = top.0.1.until;
        leads = subst (λ hops. IsAskedFor alive IsHop query.kind query.vertex at hops v t) empty leads;
        short = omega arith;
        is = ap (journey_value query.kind at) (sym empty) ∙ is;
      },
    )

    -- the last hop of a best journey can be the last one: the best value before it becomes the best value by it
    last-ends : query.kind ≢ Latest → (rest : List Hop) (hop : Hop) → IsJourney alive IsHop query.vertex at (rest ++ hop ∷ []) v t → journey_value query.kind at (rest ++ hop ∷ []) ≡ x → CanEnd alive IsHop query.kind TheBest v t hop
    last-ends forward rest hop leads is =
        let parts = journey-last alive IsHop query.vertex at rest hop v t leads in
        let y : ℕ = journey_value query.kind at rest in
        let before = best-at hop.from hop.depart y (value-of hop.from hop.depart rest (journey-asked alive IsHop query.kind forward query.vertex at rest hop.from hop.depart parts.0)) in
        let after : ℕ = value_after query.kind before.0 hop in
        let good : IsAsGood query.kind x after = top.1 after (reached before.0 before.1) in
        let becomes_x : value_after query.kind y hop ≡ x = sym (after-more query.kind forward at rest hop) ∙ is in
        let back : IsAsGood query.kind after x = subst (IsAsGood query.kind after) becomes_x (after-rises query.kind before.0 y hop before.2) in
        record {
          hops = parts.1;
          to = parts.2;
          waits = parts.3;
          before = before.0;
          best_before = before.1;
          gives = subst (TheBest v t) (as_good-one query.kind x after good back) top;
        }
      where
        reached : (b : ℕ) → TheBest hop.from hop.depart b → AnyValue v t (value_after query.kind b hop)
        reached b best_before =
            let value = best_before.0.1 in
            let parts = journey-last alive IsHop query.vertex at rest hop v t leads in
            let first = asked-journey alive IsHop query.kind forward query.vertex value.at value.hops hop.from hop.depart value.leads in (
              suc (length (value.hops ++ hop ∷ [])),
              record {
                at = value.at;
                hops = value.hops ++ hop ∷ [];
                from = value.from;
                until = value.until;
                leads = journey-asked alive IsHop query.kind forward query.vertex value.at (value.hops ++ hop ∷ []) v t
                    (journey-more alive IsHop query.vertex value.at value.hops hop v t first parts.1 parts.2 parts.3);
                short = omega arith;
                is = after-more query.kind forward value.at value.hops hop ∙ ap (λ y. value_after query.kind y hop) value.is;
              },
            )

    pub some-ends : query.kind ≢ Latest → (hop : Hop) × CanEnd alive IsHop query.kind (λ v t x. IsBestOverAll alive IsHop query v t (Some x)) v t hop
    some-ends forward = by top.0.1.hops top.0.1.leads top.0.1.is (last_or_none top.0.1.hops)
      where
        by : (hops : List Hop) → IsAskedFor alive IsHop query.kind query.vertex at hops v t → journey_value query.kind at hops ≡ x → (hops ≡ []) ⊎ ((rest : List Hop) × (hop : Hop) × (hops ≡ rest ++ hop ∷ [])) → (hop : Hop) × CanEnd alive IsHop query.kind TheBest v t hop
        by hops leads is (inl empty) = absurd (not_empty hops leads is empty)
        by hops leads is (inr last) = (
          last.1,
          last-ends forward last.0 last.1
              (subst (λ hops. IsJourney alive IsHop query.vertex at hops v t) last.2 (asked-journey alive IsHop query.kind forward query.vertex at hops v t leads))
              (ap (journey_value query.kind at) (sym last.2) ∙ is),
        )

    pub some-begins : query.kind ≡ Latest → (hop : Hop) × CanBegin alive IsHop (λ v t x. IsBestOverAll alive IsHop query v t (Some x)) v t hop
    some-begins latest = by top.0.1.hops top.0.1.leads top.0.1.is
      where
        by : (hops : List Hop) → IsAskedFor alive IsHop query.kind query.vertex at hops v t → journey_value query.kind at hops ≡ x → (hop : Hop) × CanBegin alive IsHop TheBest v t hop
        by [] leads is = absurd (not_empty [] leads is refl)
        by (hop ∷ hops) leads is =
            let parts : IsJourney alive IsHop v t (hop ∷ hops) query.vertex at = subst (λ kind. IsAskedFor alive IsHop kind query.vertex at (hop ∷ hops) v t) latest leads in
            let departs : hop.depart ≡ x = subst (λ kind. journey_value kind at (hop ∷ hops) ≡ x) latest is in
            let rest = subst (λ kind. IsAskedFor alive IsHop kind query.vertex at hops hop.to (arrival hop)) (sym latest) parts.3 in
            let after = best-at hop.to (arrival hop) (journey_value query.kind at hops) (value-of hop.to (arrival hop) hops rest) in (
              hop,
              record {
                hops = parts.0;
                from = parts.1;
                waits = parts.2;
                gives = subst (TheBest v t) (sym departs) top;
                after = after.0;
                best_after = after.1;
              },
            )

-- some of the arcs, and what they are: those into a vertex, or those out of it
pub record AreThose (End : Arc → Type 0) (arcs some : List Arc) : Type 0 where
  pub all : (arc : Arc) → Contains arcs arc → End arc → Contains some arc
  pub only : (arc : Arc) → Contains some arc → Contains arcs arc × End arc

pub arcs_into-are : (arcs all : List Arc) (v : ℕ) → IsPermutation arcs all → AreThose (λ arc. arc.to ≡ v) arcs (arcs_into all v)
arcs_into-are arcs all v moved = record {
  all = λ arc among to. Contains-filter (λ (arc : Arc). arc.to == v) all arc (Contains-permutation arcs all arc moved among) (eq-eqb arc.to v to);
  only = λ arc among. (
      let found = filter-Contains (λ (arc : Arc). arc.to == v) all arc among in
      (Contains-permutation all arcs arc (IsPermutation-sym arcs all moved) found.0, eqb-true arc.to v found.1)
      );
}

-- an element that is read is one of the list
Contains-read : {X : Type 0} (xs : List X) (i : ℕ) (x : X) → i < length xs → x ≡ get_or xs i x → Contains xs x
Contains-read xs i x less is = (i, less, sym is)

-- elements that are read at one place are one
same-read : {X : Type 0} (xs : List X) (i j : ℕ) (x y : X) → i < length xs → i ≡ j → x ≡ get_or xs i x → y ≡ get_or xs j y → x ≡ y
same-read xs i j x y less same is there = is ∙ get_or_default xs i x y less ∙ ap (λ k. get_or xs k y) same ∙ sym there

-- The first arc with a hop that can be the last one, and the least departure there: it is the first of the hops that can.
module _ (lives : List (List Interval)) (arcs : List Arc) (query : PathQuery) (values : List (List (Piece (Option ℕ)))) (table : IsTable lives arcs) (answered : IsAnswered lives arcs query values) (v t x : ℕ) (best : IsBestOn lives arcs query v t x) (into : List Arc) (are : AreThose (λ arc. arc.to ≡ v) arcs into) where
  abbrev IsEnd : Hop → Type 0
  IsEnd hop = CanEndOn lives arcs query v t hop

  -- a hop that can be the last one is along one of the arcs
  record EndPlace (hop : Hop) : Type 0 where
    arc : Arc
    is : hop ≡ hop_along arc hop.depart
    place : ℕ
    within : place < length into
    read : arc ≡ get_or into place arc
    held : IsTrue (holds arc.over hop.depart)
    ends : IsTrue (can_end values query.kind t x arc hop.depart)

  end-place : (hop : Hop) → IsEnd hop → EndPlace hop
  end-place hop can =
      let arc : Arc = can.hops.arc in
      let is : hop ≡ hop_along arc hop.depart = can.hops.is in
      let found = are.all arc can.hops.among (sym (ap (λ (h : Hop). h.to) is) ∙ can.to) in
      record {
        arc = arc;
        is = is;
        place = found.0;
        within = found.1;
        read = sym found.2;
        held = can.hops.held;
        ends = (ends lives arcs query values answered table arc can.hops.among v t x best hop.depart (sym (ap (λ (h : Hop). h.to) is) ∙ can.to)).1 (can.hops.held, subst IsEnd is can);
      }

  -- where no arc has one, there is none
  pub none-end : AllWithin (NoneEnds values query.kind t x) into 0 (length into) → (hop : Hop) → CanEndOn lives arcs query v t hop → ⊥
  none-end none hop can =
      let place = end-place hop can in
      none place.place place.arc (omega arith) place.within hop.depart (subst (λ arc. IsTrue (can_end values query.kind t x arc hop.depart)) place.read place.ends)

  module _ (by_edge : AreByEdge into) (i d : ℕ) (arc : Arc) (within : i < length into) (read : arc ≡ get_or into i arc) (test : IsTrue (can_end values query.kind t x arc d)) where
    own : Contains arcs arc × (arc.to ≡ v)
    own = are.only arc (Contains-read into i arc within read)

    pub first-end : CanEndOn lives arcs query v t (hop_along arc d)
    first-end = ((ends lives arcs query values answered table arc own.0 v t x best d own.1).0 test).1

    -- a hop of an arc no earlier in the list is no earlier, if the departure is the least
    module _ (least : (e : ℕ) → e < d → IsTrue (can_end values query.kind t x arc e) → ⊥) (other : Hop) (can : IsEnd other) (place : EndPlace other) where
      abbrev e : ℕ
      e = other.depart

      abbrev later : Arc
      later = place.arc

      same-arc : i ≡ place.place → IsBefore (hop_along arc d) (hop_along later e)
      same-arc same =
          let is : arc ≡ later = same-read into i place.place arc later within same read place.read in
          inr (
            ap (λ (a : Arc). a.edge) is,
            ⊎_elim
                (λ (less : e < d). absurd (least e less (subst (λ a. IsTrue (can_end values query.kind t x a e)) (sym is) place.ends)))
                (λ (le : d ≤ e). le)
                (cases_lt e d),
          )

      -- along this arc the hop could be the last one earlier
      one_edge : arc.edge ≡ later.edge → start_of arc.over ≤ start_of later.over → e < d → ⊥
      one_edge edge start less =
          let parts = (ends lives arcs query values answered table arc own.0 v t x best d own.1).0 test in
          let here = holds-true arc.over d parts.0 in
          let there = holds-true later.over e place.held in
          let held = holds-from arc.over e (omega arith) (omega arith) in
          let hop : IsHopOn arcs (hop_along arc e) = record { arc = arc; among = own.0; held = held; is = refl } in
          let one = answered.once other (hop_along arc e) can.hops hop (ap (λ (h : Hop). h.edge) place.is ∙ sym edge) refl in
          least e less ((ends lives arcs query values answered table arc own.0 v t x best e own.1).1 (held, subst IsEnd one can))

      later-arc : i < place.place → IsBefore (hop_along arc d) (hop_along later e)
      later-arc less =
          ⊎_elim (λ (edge : arc.edge < later.edge). inl edge)
          (λ (both : (arc.edge ≡ later.edge) × (start_of arc.over ≤ start_of later.over)). inr (
            both.0,
            ⊎_elim
                (λ (early : e < d). absurd (one_edge both.0 both.1 early))
                (λ (le : d ≤ e). le)
                (cases_lt e d),
          ))
          order
        where
          order : ComesFirst arc later
          order =
              subst (λ a. ComesFirst a later) (sym (read ∙ get_or_default into i arc later within))
              (subst (ComesFirst (get_or into i later)) (sym place.read) (by_edge i place.place later less place.within))

    pub first-end-before : ((e : ℕ) → e < d → IsTrue (can_end values query.kind t x arc e) → ⊥) → AllWithin (NoneEnds values query.kind t x) into 0 i
        → (other : Hop) → CanEndOn lives arcs query v t other → IsBefore (hop_along arc d) other
    first-end-before least none other can = subst (IsBefore (hop_along arc d)) (sym place.is) (by (cases_order i place.place))
      where
        place : EndPlace other
        place = end-place other can

        by : (i ≡ place.place) ⊎ ((i < place.place) ⊎ (place.place < i)) → IsBefore (hop_along arc d) (hop_along place.arc other.depart)
        by (inl same) = same-arc least other can place same
        by (inr (inl less)) = later-arc least other can place less
        by (inr (inr passed)) =
            absurd (none place.place place.arc (omega arith) passed other.depart (subst (λ a. IsTrue (can_end values query.kind t x a other.depart)) place.read place.ends))

pub arcs_out-are : (arcs : List Arc) (v : ℕ) → AreThose (λ arc. arc.from ≡ v) arcs (arcs_out arcs v)
arcs_out-are arcs v = record {
  all = λ arc among from. Contains-filter (λ (arc : Arc). arc.from == v) arcs arc among (eq-eqb arc.from v from);
  only = λ arc among. (
      let found = filter-Contains (λ (arc : Arc). arc.from == v) arcs arc among in
      (found.0, eqb-true arc.from v found.1)
      );
}

-- arcs of one source go by their edges
by_edge : (x y : Arc) → x.from ≡ y.from → is_lt (arc_order y x) ≡ false → x.edge ≤ y.edge
by_edge x y same h =
    ⊎_elim
    (λ (less : y.edge < x.edge). absurd (false≢true (sym h ∙ lt_second (nat_cmp y.from x.from) (nat_cmp y.edge x.edge) _ equal (cond-true _ _ _ (lt-ltb _ _ less)))))
    (λ (le : x.edge ≤ y.edge). le)
    (cases_lt y.edge x.edge)
  where
    equal : nat_cmp y.from x.from ≡ Equal
    equal = cond-false _ _ _ (le-ltb y.from x.from (omega (arith, same))) ∙ cond-true _ _ _ (eq-eqb y.from x.from (sym same))

    lt_second : (o p q : Ordering) → o ≡ Equal → p ≡ Less → is_lt (ordering_then o (ordering_then p q)) ≡ true
    lt_second o p q first then = ap (λ o. is_lt (ordering_then o (ordering_then p q))) first ∙ ap (λ p. is_lt (ordering_then p q)) then

-- the arcs out of a vertex go by their edges
module _ (lives : List (List Interval)) (arcs : List Arc) (v : ℕ) (table : IsTable lives arcs) where
  abbrev out : List Arc
  out = arcs_out arcs v

  rises : IsSorted arc_order out
  rises =
      IsSortedBy-filter (λ x y. is_lt (arc_order x y)) (ranks_by arc_total (λ x. x)) (λ (arc : Arc). arc.from == v) arcs
      (subst (IsSorted arc_order) table.in_order (IsSorted-sorted arc_order arc_total arcs))

  own_from : (k : ℕ) (d : Arc) → k < length out → (get_or out k d).from ≡ v
  own_from k d less = ((arcs_out-are arcs v).only (get_or out k d) (Contains-read out k (get_or out k d) less (get_or_default out k d (get_or out k d) less))).1

  pub arcs_out-by_edge : (i j : ℕ) (d : Arc) → i ≤ j → j < length (arcs_out arcs v) → (get_or (arcs_out arcs v) i d).edge ≤ (get_or (arcs_out arcs v) j d).edge
  arcs_out-by_edge i j d order within =
      by_edge (get_or out i d) (get_or out j d) (own_from i d (omega arith) ∙ sym (own_from j d within)) (sorted_far (λ x y. is_lt (arc_order x y)) (ranks_by arc_total (λ x. x)) out rises i j d order within)

-- The first arc out of a vertex with a hop that can be the first one: that hop is the first of the hops that can.
module _ (lives : List (List Interval)) (arcs : List Arc) (query : PathQuery) (values : List (List (Piece (Option ℕ)))) (table : IsTable lives arcs) (answered : IsAnswered lives arcs query values) (v t x : ℕ) (best : IsBestOn lives arcs query v t x) where
  abbrev IsBeginning : Hop → Type 0
  IsBeginning hop = CanBeginOn lives arcs query v t hop

  -- a hop that can be the first one is along one of the arcs, at the best value
  record BeginPlace (hop : Hop) : Type 0 where
    arc : Arc
    is : hop ≡ hop_along arc x
    place : ℕ
    within : place < length (arcs_out arcs v)
    read : arc ≡ get_or (arcs_out arcs v) place arc
    begins : IsTrue (can_begin values x arc)

  begin-place : (hop : Hop) → IsBeginning hop → BeginPlace hop
  begin-place hop can =
      let arc : Arc = can.hops.arc in
      let departs : hop.depart ≡ x = best-one (vertex_is_alive lives) (IsHopOn arcs) query v t hop.depart x can.gives best in
      let is : hop ≡ hop_along arc x = can.hops.is ∙ ap (hop_along arc) departs in
      let from = sym (ap (λ (h : Hop). h.from) is) ∙ can.from in
      let found = (arcs_out-are arcs v).all arc can.hops.among from in
      record {
        arc = arc;
        is = is;
        place = found.0;
        within = found.1;
        read = sym found.2;
        begins = ((begins lives arcs query values answered table arc can.hops.among v t x best from).1 (subst (λ d. IsTrue (holds arc.over d)) departs can.hops.held, subst IsBeginning is can)).0;
      }

  -- where no arc has one, there is none
  pub none-begin : AllWithin (NoneBegins values x) (arcs_out arcs v) 0 (length (arcs_out arcs v)) → (hop : Hop) → CanBeginOn lives arcs query v t hop → ⊥
  none-begin none hop can =
      let place = begin-place hop can in
      none place.place place.arc (omega arith) place.within (subst (λ arc. IsTrue (can_begin values x arc)) place.read place.begins)

  module _ (i : ℕ) (arc : Arc) (within : i < length (arcs_out arcs v)) (read : arc ≡ get_or (arcs_out arcs v) i arc) where
    -- it can, where some hop can, since the vertex waits for that as long
    pub first-begin : IsTrue (can_begin values x arc) → (hop : Hop) × CanBeginOn lives arcs query v t hop
        → CanBeginOn lives arcs query v t (hop_along arc x)
    first-begin test some =
        let own = (arcs_out-are arcs v).only arc (Contains-read (arcs_out arcs v) i arc within read) in
        let departs = best-one (vertex_is_alive lives) (IsHopOn arcs) query v t some.0.depart x some.1.gives best in
        ((begins lives arcs query values answered table arc own.0 v t x best own.1).0 (test, subst (Waits (vertex_is_alive lives) v t) departs some.1.waits)).1

    pub first-begin-before : AllWithin (NoneBegins values x) (arcs_out arcs v) 0 i
        → (other : Hop) → CanBeginOn lives arcs query v t other → IsBeforeLate (hop_along arc x) other
    first-begin-before none other can = subst (IsBeforeLate (hop_along arc x)) (sym place.is) (by (cases_lt place.place i))
      where
        place : BeginPlace other
        place = begin-place other can

        by : (place.place < i) ⊎ (i ≤ place.place) → IsBeforeLate (hop_along arc x) (hop_along place.arc x)
        by (inl passed) = absurd (none place.place place.arc (omega arith) passed (subst (λ a. IsTrue (can_begin values x a)) place.read place.begins))
        by (inr order) =
            let edges = arcs_out-by_edge lives arcs v table i place.place place.arc order place.within in
            let first : arc ≡ get_or (arcs_out arcs v) i place.arc = read ∙ get_or_default (arcs_out arcs v) i arc place.arc within in
            let le : arc.edge ≤ place.arc.edge =
            subst (λ (a : Arc). a.edge ≤ place.arc.edge) (sym first) (subst (λ (a : Arc). (get_or (arcs_out arcs v) i place.arc).edge ≤ a.edge) (sym place.read) edges) in
            ⊎_elim (λ (less : arc.edge < place.arc.edge). inl less)
            (λ (ge : place.arc.edge ≤ arc.edge). inr (omega (arith, le, ge), omega arith))
            (cases_lt arc.edge place.arc.edge)
