-- The arcs of all edges that hold an instant are the links of the graph then, and how a table takes them.
use Rattle.std.proofs.Common.{◌≡◌, refl, sym, ap, subst, ◌∙◌, ℕ, zero, suc, ◌+◌, ◌<◌, ◌≤◌, arith, Bool, true, false, cond, List, [], ◌∷◌, ◌++◌, All, map, length, filter, Option, Some, None, Ordering, slice_get, slice_index_or}
use Rattle.std.specs.List.{flat_map, range_with_len}
use Rattle.std.specs.List.Sorted.{IsPermutation}
use Rattle.std.specs.Option.{option_map_or}
use Rattle.std.specs.Ordering.{is_lt}
use Rattle.std.proofs.lemmas.Bool.{cond-true, cond-false}
use Rattle.std.proofs.lemmas.List.{map-append}
use Rattle.std.proofs.lemmas.List.Elements.{filter-append, All-nil, All-cons, All-tail, All-append, All-map}
use Rattle.std.proofs.lemmas.List.Sorted.{IsPermutation-refl, IsPermutation-cons, IsPermutation-trans, IsPermutation-map, IsPermutation-sym, IsPermutation-middle}
use Rattle.graphite_time.specs.declared.interval.Interval.{Interval}
use Rattle.graphite_time.specs.Interval.{holds}
use Rattle.graphite_time.specs.Life.{is_held}
use Rattle.graphite_time.proofs.LifeLemmas.{holds-true}
use Rattle.graphite_part.specs.declared.piece.Piece.{Piece}
use Rattle.graphite_part.specs.Pieces.{value_at, IsChain, AreRuns}
use Rattle.graphite_part.proofs.PiecesLemmas.{value_at-here, value_at-later, value_at-tail}
use Rattle.graphite_text.specs.Graph.{PlainGraph, PlainVertex, is_alive, vertex_is_alive, edge_is_alive, travel_time, travel_cost}
use Rattle.graphite_text.specs.Spans.{as_span}
use Rattle.graphite_graph.proofs.LifeLemmas.{is_alive-as_span}
use Rattle.graphite_warp.specs.Sorted.{with_element, sorted}
use Rattle.graphite_api.specs.declared.arc.Arc.{Arc}
use Rattle.graphite_api.specs.ArcOrder.{arc_order}
use Rattle.graphite_api.specs.Snapshot.{Link, link_of, arcs_at, turned}
use Rattle.graphite_api.specs.Table.{vertex_is_alive as is_alive_in, IsArcOn}
use Rattle.graphite_hops.specs.declared.direction.Direction.{Direction}
use Rattle.graphite_hops.specs.declared.direction.Direction.TheVariants.{Out, Both}
use Rattle.graphite_hops.specs.Arcs.{travel_at, arc_on, turned_arc, arcs_in, AreArcsOf, AreDirectedArcs, IsArcIn}
use Rattle.graphite_hops.specs.Links.{ends_of, link_at, links_at, links_in}

-- ---- one edge

abbrev link_with : PlainGraph → ℕ → ℕ × ℕ → Link
link_with graph e x = record { from = (ends_of graph e).from; to = (ends_of graph e).to; time = x.0; cost = x.1 }

abbrev listed : {X : Type 0} → Option X → List X
listed None = []
listed (Some x) = x ∷ []

-- of the arcs of an edge, the one that holds the instant
arcs_at-none : (graph : PlainGraph) (e t : ℕ) (pieces : List (Piece (ℕ × ℕ))) → value_at pieces t ≡ None → arcs_at (map (arc_on graph e) pieces) t ≡ []
arcs_at-none graph e t [] none = refl
arcs_at-none graph e t (piece ∷ pieces) none =
    elim (holds piece.over t) as (λ b. holds piece.over t ≡ b → arcs_at (map (arc_on graph e) (piece ∷ pieces)) t ≡ []) [
      | true ↦ λ inside. let some = value_at-here piece pieces t inside in cc
      | false ↦ λ outside. cond-false _ _ _ outside ∙ arcs_at-none graph e t pieces (sym (value_at-later piece pieces t outside) ∙ none)
    ] refl

arcs_at-one : (graph : PlainGraph) (e t : ℕ) (pieces : List (Piece (ℕ × ℕ))) → IsChain pieces → (o : Option (ℕ × ℕ)) → value_at pieces t ≡ o → map link_of (arcs_at (map (arc_on graph e) pieces) t) ≡ map (link_with graph e) (listed o)
arcs_at-one graph e t [] chain o is = ap (λ p. map (link_with graph e) (listed p)) is
arcs_at-one graph e t (piece ∷ pieces) chain o is =
    elim (holds piece.over t) as (λ b. holds piece.over t ≡ b → map link_of (arcs_at (map (arc_on graph e) (piece ∷ pieces)) t) ≡ map (link_with graph e) (listed o)) [
      | true ↦ λ inside.
          let rest = arcs_at-none graph e t pieces (value_at-tail piece pieces t chain (holds-true piece.over t inside).1) in
          ap (map link_of) (cond-true _ _ _ inside ∙ ap (λ arcs. arc_on graph e piece ∷ arcs) rest)
          ∙ ap (λ p. map (link_with graph e) (listed p)) (sym (value_at-here piece pieces t inside) ∙ is)
      | false ↦ λ outside. ap (map link_of) (cond-false _ _ _ outside) ∙ arcs_at-one graph e t pieces chain.1 o (sym (value_at-later piece pieces t outside) ∙ is)
    ] refl

-- the link of an edge where it is alive
link_if : (graph : PlainGraph) (e t : ℕ) (alive : Bool) → map (link_with graph e) (listed (cond alive (Some (travel_time graph e t, travel_cost graph e t)) None)) ≡ cond alive (link_at graph t e ∷ []) []
link_if graph e t true = refl
link_if graph e t false = refl

-- ---- all edges

cond-front : {X Y : Type 0} (b : Bool) (f : X → Y) (x : X) (xs : List X) → cond b (f x ∷ []) [] ++ map f xs ≡ map f (cond b (x ∷ xs) xs)
cond-front true f x xs = refl
cond-front false f x xs = refl

links_of_range : (graph : PlainGraph) (t : ℕ) (pieces : ℕ → List (Piece (ℕ × ℕ))) (a n : ℕ) → ((e : ℕ) → a ≤ e → e < a + n → AreRuns (travel_at graph e) (pieces e))
    → map link_of (arcs_at (flat_map (λ e. map (arc_on graph e) (pieces e)) (range_with_len a n)) t) ≡ map (link_at graph t) (filter (λ e. edge_is_alive graph e t) (range_with_len a n))
links_of_range graph t pieces a zero runs = refl
links_of_range graph t pieces a (suc n) runs =
    let one = runs a (omega arith) (omega arith) in
    let own = map (arc_on graph a) (pieces a) in
    let later = flat_map (λ e. map (arc_on graph e) (pieces e)) (range_with_len (a + 1) n) in
    let rest = links_of_range graph t pieces (a + 1) n (λ e low high. runs e (omega (arith, low)) (omega (arith, high))) in
    ap (map link_of) (filter-append (λ arc. holds arc.over t) own later)
    ∙ map-append link_of (arcs_at own t) (arcs_at later t)
    ∙ ap (λ xs. xs ++ map link_of (arcs_at later t)) (arcs_at-one graph a t (pieces a) one.in_order _ (one.values t) ∙ link_if graph a t (edge_is_alive graph a t))
    ∙ ap (λ xs. cond (edge_is_alive graph a t) (link_at graph t a ∷ []) [] ++ xs) rest
    ∙ cond-front (edge_is_alive graph a t) (link_at graph t) a (filter (λ e. edge_is_alive graph e t) (range_with_len (a + 1) n))

forward_links : (graph : PlainGraph) (arcs : List Arc) (t : ℕ) → AreArcsOf graph (length graph.edges) arcs → map link_of (arcs_at arcs t) ≡ links_at graph t
forward_links graph arcs t all =
    ap (λ xs. map link_of (arcs_at xs t)) all.arcs_are
    ∙ links_of_range graph t all.pieces 0 (length graph.edges) (λ e low high. all.runs e (omega (arith, high)))

-- ---- turned arcs

turned_at : (arcs : List Arc) (t : ℕ) → map link_of (arcs_at (map turned_arc arcs) t) ≡ map turned (map link_of (arcs_at arcs t))
turned_at [] t = refl
turned_at (arc ∷ arcs) t = by (holds arc.over t) (turned_at arcs t)
  where
    by : (b : Bool) → map link_of (arcs_at (map turned_arc arcs) t) ≡ map turned (map link_of (arcs_at arcs t)) → map link_of (cond b (turned_arc arc ∷ arcs_at (map turned_arc arcs) t) (arcs_at (map turned_arc arcs) t)) ≡ map turned (map link_of (cond b (arc ∷ arcs_at arcs t) (arcs_at arcs t)))
    by true rest = ap (λ links. turned (link_of arc) ∷ links) rest
    by false rest = rest

directed_links : (direction : Direction) (arcs : List Arc) (t : ℕ) → map link_of (arcs_at (arcs_in direction arcs) t) ≡ links_in direction (map link_of (arcs_at arcs t))
directed_links Out arcs t = refl
directed_links Both arcs t =
    ap (map link_of) (filter-append (λ arc. holds arc.over t) arcs (map turned_arc arcs))
    ∙ map-append link_of (arcs_at arcs t) (arcs_at (map turned_arc arcs) t)
    ∙ ap (λ links. map link_of (arcs_at arcs t) ++ links) (turned_at arcs t)

-- ---- a sort moves them

moved_in : {X : Type 0} (cmp : X → X → Ordering) (test : X → Bool) (x : X) (ys : List X) → IsPermutation (filter test (x ∷ ys)) (filter test (with_element cmp x ys))
moved_in cmp test x [] = IsPermutation-refl _
moved_in cmp test x (y ∷ ys) = by (is_lt (cmp y x)) (moved_in cmp test x ys)
  where
    two : (b c : Bool) (front : List _) (rest : List _) → IsPermutation (cond b (x ∷ rest) rest) front → IsPermutation (cond b (x ∷ cond c (y ∷ rest) rest) (cond c (y ∷ rest) rest)) (cond c (y ∷ front) front)
    two true true front rest moved = IsPermutation-trans _ (y ∷ x ∷ rest) _ (IsPermutation-middle (x ∷ []) y rest) (IsPermutation-cons y _ _ moved)
    two true false front rest moved = moved
    two false true front rest moved = IsPermutation-cons y _ _ moved
    two false false front rest moved = moved

    by : (less : Bool) → IsPermutation (filter test (x ∷ ys)) (filter test (with_element cmp x ys)) → IsPermutation (filter test (x ∷ y ∷ ys)) (filter test (cond less (y ∷ with_element cmp x ys) (x ∷ y ∷ ys)))
    by true moved = two (test x) (test y) (filter test (with_element cmp x ys)) (filter test ys) moved
    by false moved = IsPermutation-refl _

pub moved_by_sort : {X : Type 0} (cmp : X → X → Ordering) (test : X → Bool) (xs : List X) → IsPermutation (filter test xs) (filter test (sorted cmp xs))
moved_by_sort cmp test [] = IsPermutation-refl _
moved_by_sort cmp test (x ∷ xs) = IsPermutation-trans _ (filter test (x ∷ sorted cmp xs)) _ (by (test x) (moved_by_sort cmp test xs)) (moved_in cmp test x (sorted cmp xs))
  where
    by : (b : Bool) → IsPermutation (filter test xs) (filter test (sorted cmp xs)) → IsPermutation (cond b (x ∷ filter test xs) (filter test xs)) (cond b (x ∷ filter test (sorted cmp xs)) (filter test (sorted cmp xs)))
    by true moved = IsPermutation-cons x _ _ moved
    by false moved = moved

pub table_links : (graph : PlainGraph) (direction : Direction) (arcs table : List Arc) (t : ℕ) → AreDirectedArcs graph direction arcs → table ≡ sorted arc_order arcs → IsPermutation (map link_of (arcs_at table t)) (links_in direction (links_at graph t))
table_links graph direction arcs table t all is =
    let moved = IsPermutation-map link_of _ _ (moved_by_sort arc_order (λ arc. holds arc.over t) arcs) in
    let links : map link_of (arcs_at arcs t) ≡ links_in direction (links_at graph t) =
    ap (λ xs. map link_of (arcs_at xs t)) all.directed ∙ directed_links direction all.forward t ∙ ap (links_in direction) (forward_links graph all.forward t all.of_edges) in
    subst (λ xs. IsPermutation (map link_of (arcs_at xs t)) (links_in direction (links_at graph t))) (sym is)
    (IsPermutation-sym _ _ (subst (λ links. IsPermutation links (map link_of (arcs_at (sorted arc_order arcs) t))) links moved))

-- ---- a fact of each arc

All-with : {X : Type 0} (P : X → Type 0) (cmp : X → X → Ordering) (x : X) (ys : List X) → P x → All P ys → All P (with_element cmp x ys)
All-with P cmp x [] own all = All-cons P x [] own all
All-with P cmp x (y ∷ ys) own all = by (is_lt (cmp y x)) (All-with P cmp x ys own (All-tail P y ys all))
  where
    by : (less : Bool) → All P (with_element cmp x ys) → All P (cond less (y ∷ with_element cmp x ys) (x ∷ y ∷ ys))
    by true rest = All-cons P y (with_element cmp x ys) (all 0 y (omega arith)) rest
    by false rest = All-cons P x (y ∷ ys) own all

pub All-sorted : {X : Type 0} (P : X → Type 0) (cmp : X → X → Ordering) (xs : List X) → All P xs → All P (sorted cmp xs)
All-sorted P cmp [] all = All-nil P
All-sorted P cmp (x ∷ xs) all = All-with P cmp x (sorted cmp xs) (all 0 x (omega arith)) (All-sorted P cmp xs (All-tail P x xs all))

All-directed : (P : Arc → Type 0) (direction : Direction) (arcs : List Arc) → All P arcs → All (λ arc. P (turned_arc arc)) arcs → All P (arcs_in direction arcs)
All-directed P Out arcs all turns = all
All-directed P Both arcs all turns = All-append P arcs (map turned_arc arcs) all (All-map P turned_arc arcs turns)

-- ---- stays

abbrev IsStaying : Arc → Type 0
IsStaying arc = arc.stay ≡ arc.over

stays_on : (graph : PlainGraph) (e : ℕ) (pieces : List (Piece (ℕ × ℕ))) → All IsStaying (map (arc_on graph e) pieces)
stays_on graph e [] = All-nil IsStaying
stays_on graph e (piece ∷ pieces) = All-cons IsStaying (arc_on graph e piece) _ refl (stays_on graph e pieces)

stays_of_range : (graph : PlainGraph) (pieces : ℕ → List (Piece (ℕ × ℕ))) (a n : ℕ) → All IsStaying (flat_map (λ e. map (arc_on graph e) (pieces e)) (range_with_len a n))
stays_of_range graph pieces a zero = All-nil IsStaying
stays_of_range graph pieces a (suc n) = All-append IsStaying (map (arc_on graph a) (pieces a)) _ (stays_on graph a (pieces a)) (stays_of_range graph pieces (a + 1) n)

pub table_stays : (graph : PlainGraph) (direction : Direction) (arcs table : List Arc) → AreDirectedArcs graph direction arcs → table ≡ sorted arc_order arcs → All (λ arc. arc.stay ≡ arc.over) table
table_stays graph direction arcs table all is =
    let forward = subst (All IsStaying) (sym all.of_edges.arcs_are) (stays_of_range graph all.of_edges.pieces 0 (length graph.edges)) in
    subst (All IsStaying) (sym (is ∙ ap (sorted arc_order) all.directed)) (All-sorted IsStaying arc_order _ (All-directed IsStaying direction all.forward forward forward))

-- ---- lives

lives_alike : (lives : List (List Interval)) (vertices : List PlainVertex) (v t : ℕ) → map (map as_span) lives ≡ map (λ vertex. vertex.life) vertices → is_alive (option_map_or (λ vertex. vertex.life) (slice_get vertices v) []) t ≡ is_held (slice_index_or lives v []) t
lives_alike [] [] v t same = refl
lives_alike [] (vertex ∷ vertices) v t same = cc
lives_alike (life ∷ lives) [] v t same = cc
lives_alike (life ∷ lives) (vertex ∷ vertices) zero t same =
    let own : map as_span life ≡ vertex.life = cc in
    ap (λ spans. is_alive spans t) (sym own) ∙ is_alive-as_span life t
lives_alike (life ∷ lives) (vertex ∷ vertices) (suc v) t same =
    let rest : map (map as_span) lives ≡ map (λ vertex. vertex.life) vertices = cc in
    lives_alike lives vertices v t rest

pub lives_count : (lives : List (List Interval)) (vertices : List PlainVertex) → map (map as_span) lives ≡ map (λ vertex. vertex.life) vertices → length lives ≡ length vertices
lives_count [] [] same = refl
lives_count [] (vertex ∷ vertices) same = cc
lives_count (life ∷ lives) [] same = cc
lives_count (life ∷ lives) (vertex ∷ vertices) same =
    let rest : map (map as_span) lives ≡ map (λ vertex. vertex.life) vertices = cc in
    ap suc (lives_count lives vertices rest)

pub table_alive : (graph : PlainGraph) (lives table : List (List Interval)) (v t : ℕ) → map (map as_span) lives ≡ map (λ vertex. vertex.life) graph.vertices → table ≡ lives → is_alive_in table v t ≡ vertex_is_alive graph v t
table_alive graph lives table v t same is = ap (λ ls. is_alive_in ls v t) is ∙ sym (lives_alike lives graph.vertices v t same)

on_table : (graph : PlainGraph) (lives : List (List Interval)) → map (map as_span) lives ≡ map (λ vertex. vertex.life) graph.vertices → (arc : Arc) → IsArcIn graph arc → IsArcOn lives arc
on_table graph lives same arc fits = record {
  from = omega (arith, fits.from, lives_count lives graph.vertices same);
  to = omega (arith, fits.to, lives_count lives graph.vertices same);
  time = fits.time;
  alive = λ t inside. sym (lives_alike lives graph.vertices arc.from t same) ∙ fits.from_alive t inside;
}

turned_fits : (graph : PlainGraph) (arc : Arc) → IsArcIn graph arc → IsArcIn graph (turned_arc arc)
turned_fits graph arc fits =
    record { from = fits.to; to = fits.from; time = fits.time; from_alive = fits.to_alive; to_alive = fits.from_alive }

pub arcs_on_table : (graph : PlainGraph) (direction : Direction) (lives : List (List Interval)) (arcs : List Arc) → map (map as_span) lives ≡ map (λ vertex. vertex.life) graph.vertices → AreDirectedArcs graph direction arcs → All (IsArcOn lives) arcs
arcs_on_table graph direction lives arcs same all =
    subst (All (IsArcOn lives)) (sym all.directed)
    (All-directed (IsArcOn lives) direction all.forward
    (λ k d h. on_table graph lives same _ (all.fit k d h))
    (λ k d h. on_table graph lives same _ (turned_fits graph _ (all.fit k d h))))
