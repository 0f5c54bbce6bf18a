-- The table's arcs are along exactly the hops of the graph, each hop along one arc.
use Rattle.std.proofs.Common.{◌≡◌, ◌≢◌, refl, sym, ap, subst, ◌∙◌, ℕ, zero, suc, ◌+◌, ◌<◌, ◌≤◌, arith, Bool, true, false, List, [], ◌∷◌, ◌++◌, All, map, length, filter, Option, Some, None, ⊎_elim, ◌↔◌}
use Rattle.std.specs.List.{Contains, flat_map, range_with_len}
use Rattle.std.proofs.lemmas.Bool.{cases_lt, cond-true, cond-false, eqb-true, false_from_ne_true, and_parts}
use Rattle.std.proofs.lemmas.List.{length-append}
use Rattle.std.proofs.lemmas.List.Elements.{All-nil, All-append, All-map, All-weaker, All-contains, Contains-append_left, Contains-append_right, filter-append}
use Rattle.std.proofs.lemmas.List.Sorted.{Contains-permutation, length_permutation}
use Rattle.std.proofs.lemmas.Option.{none-some, same_Some}
use Rattle.graphite_time.specs.declared.interval.Interval.{Interval}
use Rattle.graphite_time.specs.Interval.{holds}
use Rattle.graphite_time.proofs.LifeLemmas.{holds-true}
use Rattle.graphite_part.specs.declared.piece.Piece.{Piece}
use Rattle.graphite_part.specs.Pieces.{value_at, IsChain}
use Rattle.graphite_part.proofs.PiecesLemmas.{value_at-here, value_at-later, value_at-tail}
use Rattle.graphite_text.specs.Graph.{PlainGraph}
use Rattle.graphite_text.specs.Spans.{as_span}
use Rattle.graphite_warp.specs.Sorted.{sorted}
use Rattle.graphite_warp.proofs.SortedLemmas.{IsPermutation-sorted}
use Rattle.graphite_api.specs.declared.arc.Arc.{Arc}
use Rattle.graphite_api.proofs.MemberLemmas.{Contains-map}
use Rattle.graphite_api.specs.ArcOrder.{arc_order}
use Rattle.graphite_api.specs.Hop.{Hop}
use Rattle.graphite_api.specs.TableHops.{hop_along, IsHopOn, StaysAt}
use Rattle.graphite_hops.specs.Arcs.{AreRunArcs}
use Rattle.graphite_hops.specs.Hops.{hop_values, hop_arc_on, is_arc_at, IsHopOf, AreHopArcs, AreHopArcsOf}
use Rattle.graphite_hops.proofs.HopLemmas.{Says, runs_say, hop_value, value_of_hop, hop_within, along_hop, hops_along, stays_along}
use Rattle.graphite_hops.proofs.LinkLemmas.{All-sorted, moved_by_sort}

-- the arcs of all edges, sorted, are those of a table with these lives
pub hop_table : (graph : PlainGraph) (lives table_lives : List (List Interval)) (arcs table_arcs : List Arc) → table_lives ≡ lives → AreHopArcsOf graph lives (length graph.edges) arcs → table_arcs ≡ sorted arc_order arcs → AreHopArcs graph table_lives table_arcs
hop_table graph lives table_lives arcs table_arcs same of_edges is =
    subst (λ ls. AreHopArcs graph ls table_arcs) (sym same) (record { forward = arcs; of_edges = of_edges; in_order = is })

-- ---- a fact of each arc

All-range : (P : Arc → Type 0) (f : ℕ → List Arc) (a n : ℕ) → ((e : ℕ) → a ≤ e → e < a + n → All P (f e)) → All P (flat_map f (range_with_len a n))
All-range P f a zero each = All-nil P
All-range P f a (suc n) each =
    All-append P (f a) (flat_map f (range_with_len (a + 1) n)) (each a (omega arith) (omega arith)) (All-range P f (a + 1) n (λ e low high. each e (omega (arith, low)) (omega (arith, high))))

-- what holds of the arc over each piece whose instants have its value holds of all arcs
All-run_arcs : {X : Type 0} (P : Arc → Type 0) (values : ℕ → ℕ → Option X) (arc : ℕ → Piece X → Arc) (n : ℕ) (arcs : List Arc) → AreRunArcs values arc n arcs → ((e : ℕ) (piece : Piece X) → Says (values e) piece → P (arc e piece)) → All P arcs
All-run_arcs P values arc n arcs are each =
    subst (All P) (sym are.arcs_are)
    (All-range P (λ e. map (arc e) (are.pieces e)) 0 n (λ e low high.
    All-map P (arc e) (are.pieces e) (All-weaker (Says (values e)) (λ piece. P (arc e piece)) (each e) (are.pieces e) (runs_say (values e) (are.pieces e) (are.runs e (omega (arith, high)))))))

pub All-hop_arcs : (P : Arc → Type 0) (graph : PlainGraph) (lives : List (List Interval)) (arcs : List Arc) → AreHopArcs graph lives arcs → ((e : ℕ) (piece : Piece ((ℕ × ℕ) × Interval)) → Says (hop_values graph lives e) piece → P (hop_arc_on graph e piece)) → All P arcs
All-hop_arcs P graph lives arcs are each =
    subst (All P) (sym are.in_order) (All-sorted P arc_order are.forward (All-run_arcs P (hop_values graph lives) (hop_arc_on graph) (length graph.edges) are.forward are.of_edges each))

pub table_stays_at : (graph : PlainGraph) (lives : List (List Interval)) (arcs : List Arc) → AreHopArcs graph lives arcs → All (StaysAt lives) arcs
table_stays_at graph lives arcs are = All-hop_arcs (StaysAt lives) graph lives arcs are (stays_along graph lives)

-- ---- the arc of a hop

-- the piece of a value
value_at-piece : {X : Type 0} (pieces : List (Piece X)) (t : ℕ) (x : X) → value_at pieces t ≡ Some x → (piece : Piece X) × Contains pieces piece × (holds piece.over t ≡ true) × (piece.value ≡ x)
value_at-piece [] t x is = absurd (none-some x is)
value_at-piece {X} (piece ∷ pieces) t x is = by (holds piece.over t) refl (value_at-piece pieces t x)
  where
    later : (found : Piece X) × Contains pieces found × (holds found.over t ≡ true) × (found.value ≡ x) → (found : Piece X) × Contains (piece ∷ pieces) found × (holds found.over t ≡ true) × (found.value ≡ x)
    later h = let less : h.1.0 < length pieces = h.1.1 in (h.0, (suc h.1.0, omega (arith, less), h.1.2), h.2, h.3)

    by : (b : Bool) → holds piece.over t ≡ b → (value_at pieces t ≡ Some x → (found : Piece X) × Contains pieces found × (holds found.over t ≡ true) × (found.value ≡ x)) → (found : Piece X) × Contains (piece ∷ pieces) found × (holds found.over t ≡ true) × (found.value ≡ x)
    by true inside rest =
        (piece, (0, omega arith, refl), inside, same_Some _ _ (sym (value_at-here piece pieces t inside) ∙ is))
    by false outside rest = later (rest (sym (value_at-later piece pieces t outside) ∙ is))

Contains-range : (f : ℕ → List Arc) (arc : Arc) (e a n : ℕ) → a ≤ e → e < a + n → Contains (f e) arc → Contains (flat_map f (range_with_len a n)) arc
Contains-range f arc e a zero low high has = absurd (omega (arith, low, high))
Contains-range f arc e a (suc n) low high has =
    ⊎_elim
    (λ (later : a < e). Contains-append_right (f a) (flat_map f (range_with_len (a + 1) n)) arc (Contains-range f arc e (a + 1) n (omega (arith, later)) (omega (arith, high)) has))
    (λ (le : e ≤ a).
    let same : e ≡ a = omega (arith, le, low) in
    Contains-append_left (f a) (flat_map f (range_with_len (a + 1) n)) arc (subst (λ k. Contains (f k) arc) same has))
    (cases_lt a e)

hop_on : (graph : PlainGraph) (lives : List (List Interval)) (arcs : List Arc) (hop : Hop) → map (map as_span) lives ≡ map (λ vertex. vertex.life) graph.vertices → AreHopArcs graph lives arcs → IsHopOf graph hop → IsHopOn arcs hop
hop_on graph lives arcs hop same are is =
    let e = hop.edge in
    let t = hop.depart in
    let within = hop_within graph e t is.can in
    let pieces = are.of_edges.pieces e in
    let some = value_of_hop graph lives e t same is.can in
    let found = value_at-piece pieces t some.0 ((are.of_edges.runs e within).values t ∙ some.1) in
    let arc : Arc = hop_arc_on graph e found.0 in
    let forward = Contains-range (λ k. map (hop_arc_on graph k) (are.of_edges.pieces k)) arc e 0 (length graph.edges) (omega arith) (omega (arith, within)) (Contains-map (hop_arc_on graph e) pieces found.0 found.1) in
    let among = Contains-permutation are.forward (sorted arc_order are.forward) arc (IsPermutation-sorted arc_order are.forward) (subst (λ xs. Contains xs arc) (sym are.of_edges.arcs_are) forward) in
    record {
      arc = arc;
      among = subst (λ xs. Contains xs arc) (sym are.in_order) among;
      held = found.2;
      is = is.is ∙ sym (along_hop graph lives e t found.0 (hop_value graph lives e t found.0.value (some.1 ∙ ap Some (sym found.3))));
    }

pub table_hops : (graph : PlainGraph) (lives : List (List Interval)) (arcs : List Arc) (hop : Hop) → map (map as_span) lives ≡ map (λ vertex. vertex.life) graph.vertices → AreHopArcs graph lives arcs → IsHopOn arcs hop ↔ IsHopOf graph hop
table_hops graph lives arcs hop same are =
    let along : All (λ arc. (t : ℕ) → holds arc.over t ≡ true → IsHopOf graph (hop_along arc t)) arcs =
    All-hop_arcs (λ arc. (t : ℕ) → holds arc.over t ≡ true → IsHopOf graph (hop_along arc t)) graph lives arcs are (hops_along graph lives) in (
      λ on. subst (IsHopOf graph) (sym on.is) (All-contains (λ arc. (t : ℕ) → holds arc.over t ≡ true → IsHopOf graph (hop_along arc t)) arcs on.arc along on.among hop.depart on.held),
      λ is. hop_on graph lives arcs hop same are is,
    )

-- ---- one arc for each hop

module _ (graph : PlainGraph) (e t : ℕ) where
  -- how many arcs of the edge hold the instant
  abbrev held : List Arc → ℕ
  held arcs = length (filter (is_arc_at e t) arcs)

  held-append : (xs ys : List Arc) → held (xs ++ ys) ≡ held xs + held ys
  held-append xs ys =
      ap length (filter-append (is_arc_at e t) xs ys) ∙ length-append (filter (is_arc_at e t) xs) (filter (is_arc_at e t) ys)

  -- at most one of a front arc and the others
  held-cons : (arc : Arc) (arcs : List Arc) → held arcs ≤ 1 → (is_arc_at e t arc ≡ true → held arcs ≡ 0) → held (arc ∷ arcs) ≤ 1
  held-cons arc arcs rest alone = by (is_arc_at e t arc) refl
    where
      by : (b : Bool) → is_arc_at e t arc ≡ b → held (arc ∷ arcs) ≤ 1
      by true passes =
          let none = alone passes in
          subst (λ xs. length xs ≤ 1) (sym (cond-true _ _ _ passes)) (omega (arith, none))
      by false fails = subst (λ xs. length xs ≤ 1) (sym (cond-false _ _ _ fails)) rest

  held-skip : (arc : Arc) (arcs : List Arc) → (is_arc_at e t arc ≡ true → ⊥) → held (arc ∷ arcs) ≡ held arcs
  held-skip arc arcs never = ap length (cond-false _ _ _ (false_from_ne_true (is_arc_at e t arc) never))

  none_held : (k : ℕ) (pieces : List (Piece ((ℕ × ℕ) × Interval))) → value_at pieces t ≡ None → held (map (hop_arc_on graph k) pieces) ≡ 0
  none_held k [] none = refl
  none_held k (piece ∷ pieces) none =
      let outside : holds piece.over t ≡ true → ⊥ = λ inside. none-some piece.value (sym none ∙ value_at-here piece pieces t inside) in
      held-skip (hop_arc_on graph k piece) (map (hop_arc_on graph k) pieces) (λ is. outside (and_parts _ _ is).1)
      ∙ none_held k pieces (sym (value_at-later piece pieces t (false_from_ne_true (holds piece.over t) outside)) ∙ none)

  one_held : (k : ℕ) (pieces : List (Piece ((ℕ × ℕ) × Interval))) → IsChain pieces → held (map (hop_arc_on graph k) pieces) ≤ 1
  one_held k [] chain = omega arith
  one_held k (piece ∷ pieces) chain =
      held-cons (hop_arc_on graph k piece) (map (hop_arc_on graph k) pieces) (one_held k pieces chain.1)
      (λ is. none_held k pieces (value_at-tail piece pieces t chain (holds-true piece.over t (and_parts _ _ is).1).1))

  other_held : (k : ℕ) (pieces : List (Piece ((ℕ × ℕ) × Interval))) → k ≢ e → held (map (hop_arc_on graph k) pieces) ≡ 0
  other_held k [] other = refl
  other_held k (piece ∷ pieces) other =
      held-skip (hop_arc_on graph k piece) (map (hop_arc_on graph k) pieces) (λ is. other (eqb-true k e (and_parts _ _ is).0)) ∙ other_held k pieces other

  none_of_range : (pieces : ℕ → List (Piece ((ℕ × ℕ) × Interval))) (a n : ℕ) → e < a → held (flat_map (λ k. map (hop_arc_on graph k) (pieces k)) (range_with_len a n)) ≡ 0
  none_of_range pieces a zero past = refl
  none_of_range pieces a (suc n) past =
      let own = other_held a (pieces a) (λ same. omega (arith, same, past)) in
      let rest = none_of_range pieces (a + 1) n (omega (arith, past)) in
      omega (arith, held-append (map (hop_arc_on graph a) (pieces a)) (flat_map (λ k. map (hop_arc_on graph k) (pieces k)) (range_with_len (a + 1) n)), own, rest)

  one_of_range : (pieces : ℕ → List (Piece ((ℕ × ℕ) × Interval))) (a n : ℕ) → ((k : ℕ) → a ≤ k → k < a + n → IsChain (pieces k)) → held (flat_map (λ k. map (hop_arc_on graph k) (pieces k)) (range_with_len a n)) ≤ 1
  one_of_range pieces a zero chains = omega arith
  one_of_range pieces a (suc n) chains =
      let later = flat_map (λ k. map (hop_arc_on graph k) (pieces k)) (range_with_len (a + 1) n) in
      let parts = held-append (map (hop_arc_on graph a) (pieces a)) later in
      let own = one_held a (pieces a) (chains a (omega arith) (omega arith)) in
      let rest = one_of_range pieces (a + 1) n (λ k low high. chains k (omega (arith, low)) (omega (arith, high))) in
      ⊎_elim
      (λ (past : e < a + 1). let none = none_of_range pieces (a + 1) n past in omega (arith, parts, own, none))
      (λ (le : a + 1 ≤ e). let none = other_held a (pieces a) (λ same. omega (arith, same, le)) in omega (arith, parts, rest, none))
      (cases_lt e (a + 1))

  pub table_once : (lives : List (List Interval)) (arcs : List Arc) → AreHopArcs graph lives arcs → length (filter (is_arc_at e t) arcs) ≤ 1
  table_once lives arcs are =
      let forward = one_of_range are.of_edges.pieces 0 (length graph.edges) (λ k low high. (are.of_edges.runs k (omega (arith, high))).in_order) in
      let moved = length_permutation (filter (is_arc_at e t) are.forward) (filter (is_arc_at e t) (sorted arc_order are.forward)) (moved_by_sort arc_order (is_arc_at e t) are.forward) in
      omega (arith, ap held are.in_order, moved, ap held are.of_edges.arcs_are, forward)
