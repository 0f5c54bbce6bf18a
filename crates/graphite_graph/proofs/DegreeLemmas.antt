-- Out-degrees: the departures count the edges.
use Rattle.std.proofs.Common.{◌≡◌, ℕ, ◌+◌, Bool, cond, ◌&&◌, eqb, List, [], ◌∷◌, ◌++◌, length, take, count_by, sum_by, Option, Some, None, option_map, refl, sym, ap, ◌∙◌, add-zero, get_or, slice_get}
use Rattle.std.specs.Option.{option_map_or}
use Rattle.std.proofs.lemmas.List.Sums.{sum_by-cons, sum_by-append}
use Rattle.std.proofs.lemmas.List.{take_more}
use Rattle.std.proofs.lemmas.Option.{slice_get_within, get_or_from_slice_get, same_Some}
use Rattle.graphite_text.specs.Graph.{PlainEdge, PlainGraph, is_alive, edge_life, edge_is_alive}
use Rattle.graphite_graph.specs.declared.ends.Ends.{Ends}
use Rattle.graphite_graph.specs.Ends.{edge_ends}
use Rattle.graphite_graph.specs.declared.departure.Departure.{Departure}
use Rattle.graphite_graph.specs.Departure.{departing, departing_lifespans}
use Rattle.graphite_graph.proofs.DepartureLemmas.{departing-push, departing_lifespans-push}

-- whether an edge that is alive at the instant leaves the vertex
abbrev pub leaves : ℕ → ℕ → PlainEdge → Bool
leaves v t edge = (eqb edge.from v) && is_alive edge.life t

-- one more element of a list in a sum
pub sum_by_next : {X : Type 0} (f : X → ℕ) (xs : List X) (i : ℕ) (x : X) → slice_get xs i ≡ Some x → sum_by f (take (i + 1) xs) ≡ sum_by f (take i xs) + f x
sum_by_next f xs i x at =
    let within = slice_get_within xs i x at in
    let here = get_or_from_slice_get xs i x x at in
    ap (sum_by f) (take_more xs i x within) ∙ sum_by-append f (take i xs) (get_or xs i x ∷ [])
    ∙ ap (λ n. sum_by f (take i xs) + n) (sum_by-cons f (get_or xs i x) [] ∙ add-zero _ ∙ ap f here)

-- what is read of an edge by its number is what the graph says of it
edge_read : (edge : Option PlainEdge) (ends : Ends) → option_map (λ e. record { from = e.from; to = e.to }) edge ≡ Some ends → (e : PlainEdge) × (edge ≡ Some e) × (e.from ≡ ends.from)
edge_read None ends at = cc
edge_read (Some e) ends at =
    let from : e.from ≡ ends.from = ap (λ (x : Ends). x.from) (same_Some _ _ at) in
    (e, refl, from)

-- one more departure counts as its edge does
pub departing_more : (graph : PlainGraph) (e : ℕ) (ends : Ends) (out : List Departure) (v t : ℕ) → edge_ends graph e ≡ Some ends
    → departing graph out v t ≡ count_by (leaves v t) (take e graph.edges) → departing graph (out ++ record { from = ends.from; edge = e } ∷ []) v t ≡ count_by (leaves v t) (take (e + 1) graph.edges)
departing_more graph e ends out v t at before =
    let read = edge_read (slice_get graph.edges e) ends at in
    let alive : edge_is_alive graph e t ≡ is_alive read.0.life t = ap (λ o. is_alive (option_map_or (λ edge. edge.life) o []) t) read.1 in
    departing-push graph out (record { from = ends.from; edge = e }) v t
    ∙ ap (λ n. n + cond (eqb ends.from v && edge_is_alive graph e t) 1 0) before
    ∙ ap (λ b. count_by (leaves v t) (take e graph.edges) + cond (eqb ends.from v && b) 1 0) alive
    ∙ ap (λ from. count_by (leaves v t) (take e graph.edges) + cond (eqb from v && is_alive read.0.life t) 1 0) (sym read.2)
    ∙ sym (sum_by_next (λ edge. cond (leaves v t edge) 1 0) graph.edges e read.0 read.1)

-- its edge's lifespans are those that the graph has more
pub departing_lifespans_more : (graph : PlainGraph) (e : ℕ) (ends : Ends) (out : List Departure) → edge_ends graph e ≡ Some ends
    → departing_lifespans graph out ≡ sum_by (λ edge. length edge.life) (take e graph.edges) → departing_lifespans graph (out ++ record { from = ends.from; edge = e } ∷ []) ≡ sum_by (λ edge. length edge.life) (take (e + 1) graph.edges)
departing_lifespans_more graph e ends out at before =
    let read = edge_read (slice_get graph.edges e) ends at in
    let many : length (edge_life graph e) ≡ length read.0.life = ap (λ o. length (option_map_or (λ edge. edge.life) o [])) read.1 in
    departing_lifespans-push graph out (record { from = ends.from; edge = e })
    ∙ ap (λ n. n + length (edge_life graph e)) before
    ∙ ap (λ n. sum_by (λ edge. length edge.life) (take e graph.edges) + n) many
    ∙ sym (sum_by_next (λ edge. length edge.life) graph.edges e read.0 read.1)
