-- What the program that runs on a made graph asks of it is refused only where it lacks a vertex.
use Rattle.std.proofs.Common.{◌≡◌, ◌≢◌, ◌≤◌, ◌<◌, ℕ, ◌-◌, nat_le, nat_lt, min, true, List, Option, None, Some, refl, sym, subst, ◌∙◌, arith, ap, codes, length, map, position, unwrap_or, Bool, false, ◌&&◌, if◌then◌else◌, inl, inr, IsTrue, zero, suc}
use Rattle.std.proofs.lemmas.Bool.{and_from, le-leb, lt-ltb}
use Rattle.graphite_api.specs.declared.kind.Kind.{Kind}
use Rattle.graphite_api.specs.declared.kind.Kind.TheVariants as kind
use Rattle.std.proofs.lemmas.Simd.{map-map}
use Rattle.std.specs.Str.{bytes_eq}
use Rattle.std.specs.List.{range_with_len}
use Rattle.std.specs.Fmt.{digits}
use Rattle.graphite_gen.specs.Made.{made_graph, made_vertex, numbered, IsRecipe}
use Rattle.graphite_gen.proofs.AcceptedLemmas.{made_is_accepted}
use Rattle.graphite_gen.proofs.NameLemmas.{number_among}
use Rattle.graphite_text.proofs.SoundLemmas.{vertex_named}
use Rattle.graphite_text.specs.Graph.{PlainGraph, vertex_number}
use Rattle.graphite_words.specs.declared.table.Command.{Command}
use Rattle.graphite_words.specs.declared.table.Command.TheVariants.{Degree, Bfs, Components, Max, Distance, Rank, Reach, Earliest, Cheapest, Fastest, Latest, Show, Made}
use Rattle.graphite_words.specs.declared.query.Report.TheVariants.{Summary}
use Rattle.graphite_words.specs.Table.{row_of, wants_vertex}
use Rattle.graphite_words.specs.Words.{PlainMade, PlainQuery}
use Rattle.graphite_top.specs.declared.asked.Asked.TheVariants.{Path, NoInstant, NoWindow}
use Rattle.graphite_top.specs.declared.status.Status.{Status}
use Rattle.graphite_top.specs.declared.status.Status.TheVariants.{QueryRefused}
use Rattle.graphite_top.specs.Call.{Writes}
use Rattle.graphite_top.specs.Output.{asked_by, asked_of, graph_output, in_life, in_time, is_short, made_output, made_text, made_until, query_on_made, recipe_of, text_output, reading_output, CanBeRefused, IsRefused}
use Rattle.graphite_top.proofs.AcceptedLemmas.{never_on_graph, no_query_refusal}

-- a window that fits is not refused
fitting : (graph : PlainGraph) (bytes : ℕ) (k : Kind) (h until : ℕ) → 0 < h → until ≤ h → 0 < until → is_short k (until - 0) ≡ true
    → IsRefused (in_life graph None (in_time (Summary bytes) h (Path (record { kind = k; vertex = 0; from = 0; until = until })))) → ⊥
fitting graph bytes k h until some within holds short =
    by (nat_lt 0 h && nat_le until h) (nat_lt 0 until && is_short k (until - 0))
    (and_from _ _ (lt-ltb 0 h some) (le-leb until h within)) (and_from _ _ (lt-ltb 0 until holds) short)
  where
    by : (inside fits : Bool) → inside ≡ true → fits ≡ true
        → IsRefused (in_life graph None (if inside then (if fits then Path (record { kind = k; vertex = 0; from = 0; until = until }) else NoWindow) else NoInstant)) → ⊥
    by true true in_time in_window refused = refused
    by true false in_time in_window refused = cc
    by false fits in_time in_window refused = cc

-- so is no program that starts from or leads to the first vertex
never_refused : (graph : PlainGraph) (bytes : ℕ) (of : Command) (h : ℕ) (source : Option ℕ) (key : List ℕ) → 0 < h → source ≡ Some 0
    → IsRefused (in_life graph None (in_time (Summary bytes) h (asked_by of source key 0 (unwrap_or (made_until of h) h)))) → ⊥
never_refused graph bytes of h source key some is = subst (λ s. IsRefused (in_life graph None (in_time (Summary bytes) h (asked_by of s key 0 (unwrap_or (made_until of h) h)))) → ⊥) (sym is) (by of)
  where
    by : (of : Command) → IsRefused (in_life graph None (in_time (Summary bytes) h (asked_by of (Some 0) key 0 (unwrap_or (made_until of h) h)))) → ⊥
    by Degree refused = refused
    by Bfs refused = refused
    by Components refused = refused
    by Max refused = refused
    by Distance refused = refused
    by Rank refused = refused
    by Reach refused = fitting graph bytes kind.Reach h h some (omega arith) some refl refused
    by Earliest refused = fitting graph bytes kind.Earliest h h some (omega arith) some refl refused
    by Cheapest refused = fitting graph bytes kind.Cheapest h h some (omega arith) some refl refused
    by Fastest refused = fitting graph bytes kind.Fastest h (min h 4096) some (omega arith) (omega arith) (le-leb (min h 4096 - 0) 4096 (omega arith)) refused
    by Latest refused = fitting graph bytes kind.Latest h h some (omega arith) some refl refused
    by Show refused = refused
    by Made refused = refused

first_name : codes "v0" ≡ numbered (codes "v") 0
unfolding digits
first_name = refl

-- the first vertex of a made graph is found by its name
first_vertex : (made : PlainMade) → IsRecipe (recipe_of made) → (made.vertices ≡ 0 → ⊥) → vertex_number (made_graph (recipe_of made)) (codes "v0") ≡ Some 0
first_vertex made is some =
    ap (λ name. position (bytes_eq name) (map vertex_named (made_graph (recipe_of made)).vertices)) first_name
    ∙ ap (position (bytes_eq (numbered (codes "v") 0))) (map-map vertex_named (made_vertex (recipe_of made)) (range_with_len 0 made.vertices))
    ∙ number_among (codes "v") 0 made.vertices (omega (arith, some)) (omega (arith, is.vertices))

made_is_answered : (made : PlainMade) (bytes : ℕ) → IsRecipe (recipe_of made) → (made.vertices ≡ 0 → ⊥) → IsRefused (asked_of (query_on_made made bytes) (made_graph (recipe_of made))) → ⊥
made_is_answered made bytes is some =
    never_refused (made_graph (recipe_of made)) bytes made.of made.horizon _ (codes "size") (omega (arith, is.some)) (first_vertex made is some)

-- ---- what becomes of the answer

-- the answer to its text is that to the graph
on_graph : (made : PlainMade) (bytes : ℕ) → IsRecipe (recipe_of made) → text_output (query_on_made made bytes) (made_text made) ≡ graph_output (query_on_made made bytes) (made_graph (recipe_of made))
on_graph made bytes is = ap (reading_output (query_on_made made bytes)) (made_is_accepted (recipe_of made) is)

module _ (status : Status) (old new : Option (List ℕ)) (before now : ℕ) (made : PlainMade) (is : IsRecipe (recipe_of made)) where
  -- the query is not refused, unless the graph has no vertex
  query_accepted : Writes status (made_output made) old new before now → (made.vertices ≡ 0 → ⊥) → status ≢ QueryRefused
  query_accepted w some =
      never_on_graph status QueryRefused no_query_refusal old new before now (query_on_made made (length (made_text made))) (made_graph (recipe_of made))
      (λ refused _. made_is_answered made (length (made_text made)) is some refused)
      (subst (λ output. Writes status output old new before now) (on_graph made (length (made_text made)) is) w)

  pub none_there : Writes status (made_output made) old new before now → status ≡ QueryRefused → made.vertices ≡ 0
  none_there w refused = by made.vertices (λ some. query_accepted w some refused)
    where
      by : (n : ℕ) → ((n ≡ 0 → ⊥) → ⊥) → n ≡ 0
      by zero not_some = refl
      by (suc n) not_some = absurd (not_some (λ e. cc))

-- a refused query is one of a program that wants a vertex
pub wants : (made : PlainMade) (bytes : ℕ) → CanBeRefused (Some (query_on_made made bytes)) → IsTrue (wants_vertex (row_of made.of))
wants made bytes (inl vertex) = vertex
wants made bytes (inr (inl instant)) = absurd instant
wants made bytes (inr (inr none)) = absurd none

-- the answer to the query on the text is that to the made graph
pub same_output : (made : PlainMade) (query : PlainQuery) (text : List ℕ) (bytes : ℕ) → text ≡ made_text made → bytes ≡ length text → query ≡ query_on_made made bytes → text_output query text ≡ made_output made
same_output made query text bytes is long asked =
    ap (λ q. text_output q text) asked
    ∙ ap (λ n. text_output (query_on_made made n) text) long
    ∙ ap (λ t. text_output (query_on_made made (length t)) t) is
