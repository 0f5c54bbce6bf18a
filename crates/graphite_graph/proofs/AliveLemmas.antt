-- The numbers of vertices alive: the lifespans of all vertices count them.
use Rattle.std.proofs.Common.{◌≡◌, ℕ, ◌+◌, ◌<◌, ◌≤◌, false, cond, List, [], ◌∷◌, ◌++◌, length, map, take, get_or, count_by, sum_by, Some, None, option_map, slice_get, refl, sym, ap, ◌∙◌, arith, suc, ⊎_elim}
use Rattle.std.specs.Prelude.{unwrap_or}
use Rattle.std.specs.Option.{option_map_or}
use Rattle.std.proofs.lemmas.List.{length-map}
use Rattle.std.proofs.lemmas.Bool.{cases_lt}
use Rattle.std.proofs.lemmas.List.Sums.{sum_by-cons}
use Rattle.std.proofs.lemmas.Option.{slice_get-get_or}
use Rattle.graphite_time.specs.declared.interval.Interval.{Interval}
use Rattle.graphite_time.specs.Interval.{start_of, end_of, holds}
use Rattle.graphite_time.specs.Life.{is_held, IsLife}
use Rattle.graphite_time.proofs.LifeLemmas.{holds-from, holds_after}
use Rattle.graphite_part.specs.declared.piece.Piece.{Piece}
use Rattle.graphite_part.specs.Counts.{covers_at, counted}
use Rattle.graphite_part.specs.Pieces.{value_at, piece_on, AreRuns}
use Rattle.graphite_text.specs.Graph.{PlainGraph, PlainVertex, is_alive, vertex_life, vertex_is_alive}
use Rattle.graphite_text.specs.Spans.{as_span}
use Rattle.graphite_graph.proofs.CoverLemmas.{covers_at-append, covers_at-life, is_alive-spans}
use Rattle.graphite_graph.proofs.DegreeLemmas.{sum_by_next}

-- how many of the vertices are alive at the instant
abbrev pub alive_among : List PlainVertex → ℕ → ℕ
alive_among vertices t = count_by (λ vertex. is_alive vertex.life t) vertices

-- how many lifespans the vertices have
abbrev pub lifespans_among : List PlainVertex → ℕ
lifespans_among vertices = sum_by (λ vertex. length vertex.life) vertices

nobody : PlainVertex
nobody = record { name = []; life = [] }

-- a vertex of the graph, by its number, and its life
vertex_read : (graph : PlainGraph) (v : ℕ) → v < length graph.vertices → (vertex : PlainVertex) × (slice_get graph.vertices v ≡ Some vertex) × (vertex_life graph v ≡ vertex.life)
vertex_read graph v within =
    let there = slice_get-get_or graph.vertices v nobody within in
    (get_or graph.vertices v nobody, there, ap (λ o. option_map_or (λ (vertex : PlainVertex). vertex.life) o []) there)

-- the lifespans of one more vertex count it
pub alive_more : (graph : PlainGraph) (v : ℕ) (spans old new : List Interval) → v < length graph.vertices → map as_span spans ≡ vertex_life graph v → IsLife spans → new ≡ old ++ spans
    → ((t : ℕ) → covers_at old t ≡ alive_among (take v graph.vertices) t) → (t : ℕ) → covers_at new t ≡ alive_among (take (v + 1) graph.vertices) t
alive_more graph v spans old new within same life more before t =
    let read = vertex_read graph v within in
    let here : is_held spans t ≡ is_alive read.0.life t = sym (is_alive-spans spans t) ∙ ap (λ l. is_alive l t) (same ∙ read.2) in
    ap (λ xs. covers_at xs t) more ∙ covers_at-append old spans t
    ∙ ap (λ n. n + covers_at spans t) (before t)
    ∙ ap (λ n. alive_among (take v graph.vertices) t + n) (covers_at-life spans t life ∙ ap (λ b. cond b 1 0) here)
    ∙ sym (sum_by_next (λ vertex. cond (is_alive vertex.life t) 1 0) graph.vertices v read.0 read.1)

-- and are as many more
pub lifespans_more : (graph : PlainGraph) (v n m : ℕ) (spans : List Interval) → v < length graph.vertices → map as_span spans ≡ vertex_life graph v → m ≡ n + length spans
    → n ≡ lifespans_among (take v graph.vertices) → m ≡ lifespans_among (take (v + 1) graph.vertices)
lifespans_more graph v n m spans within same more before =
    let read = vertex_read graph v within in
    let many : length spans ≡ length read.0.life = sym (length-map spans as_span) ∙ ap length (same ∙ read.2) in
    more ∙ ap (λ k. k + length spans) before ∙ ap (λ k. lifespans_among (take v graph.vertices) + k) many
    ∙ sym (sum_by_next (λ vertex. length vertex.life) graph.vertices v read.0 read.1)

-- where no vertex is alive they count 0
none_alive : (vertices : List PlainVertex) (t : ℕ) → ((v : ℕ) → v < length vertices → is_alive (option_map_or (λ vertex. vertex.life) (slice_get vertices v) []) t ≡ false) → alive_among vertices t ≡ 0
none_alive [] t none = refl
none_alive (vertex ∷ vertices) t none =
    let first : is_alive vertex.life t ≡ false = none 0 (omega arith) in
    sum_by-cons (λ vertex. cond (is_alive vertex.life t) 1 0) vertex vertices ∙ ap (λ b. cond b 1 0 + alive_among vertices t) first
    ∙ omega (arith, none_alive vertices t (λ v h. none (suc v) (omega (arith, h))))

-- no vertex is alive from the horizon on
abbrev pub EndsAtHorizon : PlainGraph → Type 0
EndsAtHorizon graph = (v t : ℕ) → v < length graph.vertices → graph.horizon ≤ t → vertex_is_alive graph v t ≡ false

-- the counts below the horizon are the numbers alive
pub numbers-counted : (graph : PlainGraph) (whole : Interval) (all : List Interval) (one numbers : List (Piece ℕ)) → start_of whole ≡ 0 → end_of whole ≡ graph.horizon → one ≡ piece_on 0 whole ∷ [] → AreRuns (counted (value_at one) all) numbers
    → ((t : ℕ) → covers_at all t ≡ alive_among graph.vertices t) → EndsAtHorizon graph → (t : ℕ) → unwrap_or (value_at numbers t) 0 ≡ alive_among graph.vertices t
numbers-counted graph whole all one numbers starts ends is runs counts ended t =
    let read : value_at numbers t ≡ option_map (λ n. n + covers_at all t) (cond (holds whole t) (Some 0) None) = runs.values t ∙ ap (λ xs. option_map (λ n. n + covers_at all t) (value_at xs t)) is in
    let number : 0 + covers_at all t ≡ covers_at all t = omega arith in
    ⊎_elim
    (λ (below : t < graph.horizon).
    ap (λ o. unwrap_or o 0) (read ∙ ap (λ b. option_map (λ n. n + covers_at all t) (cond b (Some 0) None)) (holds-from whole t (omega (arith, starts)) (omega (arith, ends, below)))) ∙ number ∙ counts t)
    (λ (from : graph.horizon ≤ t).
    ap (λ o. unwrap_or o 0) (read ∙ ap (λ b. option_map (λ n. n + covers_at all t) (cond b (Some 0) None)) (holds_after whole t (omega (arith, ends, from)))) ∙ sym (none_alive graph.vertices t (λ v h. ended v t h from)))
    (cases_lt t graph.horizon)

-- nor is any where there is no instant below it
pub numbers-none : (graph : PlainGraph) (numbers : List (Piece ℕ)) → graph.horizon ≤ 0 → numbers ≡ [] → EndsAtHorizon graph → (t : ℕ) → unwrap_or (value_at numbers t) 0 ≡ alive_among graph.vertices t
numbers-none graph numbers no_instant is ended t =
    ap (λ xs. unwrap_or (value_at xs t) 0) is ∙ sym (none_alive graph.vertices t (λ v h. ended v t h (omega (arith, no_instant))))
