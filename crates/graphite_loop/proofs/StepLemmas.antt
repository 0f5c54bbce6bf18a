-- A whole superstep, from what was made at every vertex.
use Rattle.std.proofs.Common.{◌≡◌, ℕ, suc, ◌<◌, ◌≤◌, ◌==◌, ◌&&◌, Bool, true, false, not, List, [], ◌∷◌, length, get_or, map, filter, None, IsSome, is_some, IsTrue, refl, sym, ◌∙◌, ap, subst, arith, ⊎_elim}
use denote.Ref.{Bor}
use denote.Param.Members.{Mut}
use mathlib.Core.Path.{fun_ext}
use Rattle.std.specs.Fn.{Called}
use Rattle.std.proofs.lemmas.Fn.{always_returns_same}
use Rattle.std.specs.List.Sorted.{IsNonDecreasingBy, IsStableByKey, IsStableByKeyClosure, ties}
use Rattle.std.specs.Ordering.{is_lt, nat_cmp}
use Rattle.std.proofs.Math.ListN.{get_or-eq_default}
use Rattle.std.proofs.lemmas.Bool.{cases_lt}
use Rattle.std.proofs.lemmas.List.{get_or_default}
use Rattle.std.proofs.lemmas.Bool.Decides.{nat_tests}
use Rattle.std.proofs.lemmas.List.Folds.{Any-from_list_any, list_any_at}
use Rattle.graphite_time.specs.declared.interval.Interval.{Interval}
use Rattle.graphite_time.specs.Interval.{start_of}
use Rattle.graphite_part.specs.declared.piece.Piece.{Piece}
use Rattle.graphite_part.specs.Pieces.{value_at, IsChain}
use Rattle.graphite_part.proofs.PiecesLemmas.{value_at-here, holds_start}
use Rattle.graphite_warp.specs.Sorted.{sorted}
use Rattle.graphite_api.specs.declared.arc.Arc.{Arc}
use Rattle.graphite_api.specs.ArcOrder.{arc_order}
use Rattle.graphite_api.specs.Table.{IsTable}
use Rattle.graphite_api.specs.Rules.{Rules, outcome_at}
use Rattle.graphite_loop.specs.declared.delivery.Delivery.{Delivery}
use Rattle.graphite_loop.specs.Sweep.{sent_of}
use Rattle.graphite_loop.specs.Superstep.{Standing, list_at, group_at, outcome_in, SomeSends, IsSuperstep}
use Rattle.graphite_loop.specs.Deliveries.{message_of, inbox_of, standing_of, AreRising}
use Rattle.graphite_loop.specs.Progress.{IsReady}
use Rattle.graphite_loop.specs.Vertex.{has_pieces}
use Rattle.graphite_loop.specs.Walk.{IsWalked, IsGivenUp}
use Rattle.graphite_loop.proofs.WalkLemmas.{list_at-inboxes}
use Rattle.graphite_loop.proofs.SendLemmas.{all_delivered}

-- deliveries by the number of the vertex that they come to
pub rising_from : {M : Type 0} (from : ℕ) (deliveries : List (Delivery M)) → ((k : ℕ) (d : Delivery M) → k < length deliveries → from ≤ (get_or deliveries k d).to) → IsNonDecreasingBy (λ delivery. delivery.to) deliveries → AreRising from deliveries
rising_from from [] first rise = tt
rising_from from (delivery ∷ deliveries) first rise = (
  first 0 delivery (omega arith),
  rising_from delivery.to deliveries (λ k d within. rise 0 (suc k) d (omega arith) (omega (arith, within))) (λ i j d le within. rise (suc i) (suc j) d (omega (arith, le)) (omega (arith, within))),
)

-- a piece gives a value at its start
some_piece : {X : Type 0} (pieces : List (Piece X)) → has_pieces pieces ≡ true → (t : ℕ) × IsSome (value_at pieces t)
some_piece [] e = cc
some_piece (piece ∷ pieces) e =
    (start_of piece.over, ap is_some (value_at-here piece pieces (start_of piece.over) (holds_start piece.over)))

some_value : {X : Type 0} (pieces : List (Piece X)) (t : ℕ) → IsSome (value_at pieces t) → has_pieces pieces ≡ true
some_value [] t some = cc
some_value (piece ∷ pieces) t some = refl

-- what is used of a table: its arcs are in order, and lead out of its vertices
pub record AreOrdered (arcs : List Arc) (vertices : ℕ) : Type 0 where
  pub in_order : sorted arc_order arcs ≡ arcs
  pub sources : (k : ℕ) (d : Arc) → k < length arcs → (get_or arcs k d).from < vertices

module _ {S M : Type 0} (rules : Rules S M) (arcs : List Arc) (k : ℕ) (old : Standing S M) (states : List (List (Piece S))) (deliveries : List (Delivery M)) (sends : Bool) (before now : ℕ) (walked : IsWalked rules arcs k old (length old.states) states deliveries sends before now) where
  -- where a vertex sends, the answer is yes, and where it is, a vertex sends
  some_sends : IsTrue sends → SomeSends rules k old
  some_sends sent =
      let found = Any-from_list_any has_pieces walked.sent (sym walked.sends_is ∙ sent) in
      let v = found.0 in
      let within : v < length old.states = omega (arith, found.2, walked.sent_len) in
      let here : list_at walked.sent v ≡ found.1 = get_or_default walked.sent v [] found.1 found.2 ∙ found.3 in
      let at = some_piece (list_at walked.sent v) (ap has_pieces here ∙ found.4) in
      (v, at.0, subst IsSome ((walked.sent_are v within).values at.0) at.1)

  is_sent : SomeSends rules k old → IsTrue sends
  is_sent some =
      ⊎_elim
      (λ (within : some.0 < length old.states).
      let there = some_value (list_at walked.sent some.0) some.1 (subst IsSome (sym ((walked.sent_are some.0 within).values some.1)) some.2) in
      walked.sends_is ∙ list_any_at has_pieces walked.sent some.0 [] (omega (arith, within, walked.sent_len)) there)
      (λ (past : length old.states ≤ some.0).
      let none : list_at old.states some.0 ≡ [] = get_or-eq_default old.states [] past in
      let nothing : sent_of (outcome_in rules k old some.0 some.1) ≡ None = ap (λ ps. sent_of (outcome_at rules k (value_at ps some.1) (group_at rules old some.0 some.1))) none in
      absurd (true_is_not (sym some.2 ∙ ap is_some nothing)))
      (cases_lt some.0 (length old.states))
    where
      true_is_not : true ≡ false → ⊥
      true_is_not e = cc

  pub IsSuperstep-made : (deliveries' : List (Delivery M)) → ((w : ℕ) → inbox_of deliveries' w ≡ inbox_of deliveries w) → AreOrdered arcs (length old.states) → IsSuperstep rules arcs k old (standing_of states deliveries') sends before now
  IsSuperstep-made deliveries' same table = record {
    sent = walked.sent;
    inputs = walked.inputs;
    states_len = walked.states_len;
    sent_len = walked.sent_len;
    inputs_len = walked.inputs_len;
    states_are = walked.states_are;
    sent_are = walked.sent_are;
    inputs_are = walked.inputs_are;
    inboxes_are = λ v within.
        list_at-inboxes (length states) deliveries' v (omega (arith, within, walked.states_len)) ∙ same v ∙ ap (λ ls. inbox_of ls v) walked.deliveries_are
        ∙ all_delivered rules arcs walked.sent v table.in_order (λ j d less. omega (arith, table.sources j d less, walked.sent_len));
    answers = (some_sends, is_sent);
    counted = walked.counted;
  }

  pub IsReady-made : (vertices : ℕ) (deliveries' : List (Delivery M)) → length old.states ≡ vertices → AreRising 0 deliveries' → IsReady vertices states deliveries'
  IsReady-made vertices deliveries' len rising = record {
    len = walked.states_len ∙ len;
    chains = λ j d within. subst IsChain (get_or_default states j [] d within) (walked.states_are j (omega (arith, within, walked.states_len))).in_order;
    rising = rising;
  }

  pub IsGivenUp-late : IsGivenUp rules k old before now
  IsGivenUp-late = record {
    inputs = walked.inputs;
    within = omega (arith, walked.inputs_len);
    inputs_are = λ v less. walked.inputs_are v (omega (arith, less, walked.inputs_len));
    at_most = omega (arith, walked.counted);
  }

-- what a stable sort keeps, where each call of its closure gives n of the element
pub stable_from : {X : Type 0} (n : X → ℕ) {F : Type 0} {g : Mut F (Bor X × Unit {0}) ℕ} {f : F} (xs ys : List X) → IsStableByKeyClosure g nat_cmp f xs ys → ((a : Bor X × Unit {0}) (r : ℕ) (f' : F) → Called g f a r f' → (r ≡ n a.0.now) × (f' ≡ f)) → IsStableByKey n nat_cmp xs ys
stable_from n {F} {g} {f} xs ys stable h = stable n (always_returns_same g (λ a r. r ≡ n a.0.now) f h)

-- deliveries that tie go to one vertex
tie_is : (a b : ℕ) → (not (is_lt (nat_cmp a b)) && not (is_lt (nat_cmp b a))) ≡ (b == a)
tie_is a b = grind (arith, nat_tests)

-- a stable sort by the vertex leaves every inbox as it was
pub inboxes_stay : {M : Type 0} (xs ys : List (Delivery M)) → length ys ≡ length xs → IsStableByKey (λ delivery. delivery.to) nat_cmp xs ys → (w : ℕ) → inbox_of ys w ≡ inbox_of xs w
inboxes_stay [] [] len stable w = refl
inboxes_stay [] (y ∷ ys) len stable w = absurd (omega (arith, len))
inboxes_stay {M} (x ∷ xs) ys len stable w =
    let key : Delivery M = record x { to = w } in
    let same : (delivery : Delivery M) → ties (λ a b. is_lt (nat_cmp a.to b.to)) key delivery ≡ (delivery.to == w) = λ delivery. tie_is w delivery.to in
    let tests = fun_ext same in
    ap (map message_of) (sym (ap (λ p. filter p ys) tests) ∙ stable key ∙ ap (λ p. filter p (x ∷ xs)) tests)

pub AreOrdered-table : (lives : List (List Interval)) (arcs : List Arc) (vertices : ℕ) → vertices ≡ length lives → IsTable lives arcs → AreOrdered arcs vertices
AreOrdered-table lives arcs vertices len table = record {
  in_order = table.in_order;
  sources = λ k d less. omega (arith, len, (table.arcs_on k d less).from);
}
