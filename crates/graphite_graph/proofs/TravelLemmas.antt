-- What holds of the edges of each graph that a text is accepted with: their ends are alive while they are, and they take time.
use Rattle.std.proofs.Common.{◌≡◌, refl, sym, subst, ◌∙◌, ℕ, zero, suc, ◌-◌, ◌<◌, ◌≤◌, ◌==◌, arith, Bool, true, false, ◌&&◌, ◌||◌, cond, List, [], ◌∷◌, ◌++◌, Some, None, option_map, slice_get, eq-eqb, ⊎_elim, IsTrue}
use Rattle.std.specs.Prelude.{codes, unwrap_or}
use Rattle.std.specs.List.{find}
use Rattle.std.specs.Str.{bytes_eq}
use Rattle.std.proofs.lemmas.Bool.{and_parts, or_parts, not-false, leb-true, ltb-true, cases_lt, false≢true}
use Rattle.std.proofs.lemmas.Slice.Eq.{bytes_eq-Decides}
use Rattle.graphite_text.specs.declared.span.Span.{Span}
use Rattle.graphite_text.specs.Canonical.{canonical_text, first_span, edge_form, edge_property_form}
use Rattle.graphite_text.specs.Forms.{Form}
use Rattle.graphite_text.specs.Graph.{PlainVertex, PlainEdge, PlainProperty, PlainGraph, spans, is_alive, vertex_life, is_property_at, vertex_is_alive, edge_is_alive, travel_time}
use Rattle.graphite_text.specs.Reading.{Known, Accepted, reading_of, throughout, breaks_order, breaks_new_name, breaks_declared, breaks_ends, breaks_owner, breaks_apart, breaks_travel}
use Rattle.graphite_text.proofs.AcceptedLines.{breaks_early}
use Rattle.graphite_text.proofs.RoundTrip.{accepted_is_sound}
use Rattle.graphite_text.proofs.SoundLemmas.{EachFits, EdgeFits, EdgePropertyFits, front}
use Rattle.graphite_graph.specs.declared.ends.Ends.{Ends}
use Rattle.graphite_graph.specs.Ends.{edge_ends}
use Rattle.graphite_text.proofs.ThroughoutLemmas.{at_each-true}

-- an element fits behind some that stand before it
fits_at : {X : Type 0} (Fits : List X → X → Type 0) (before xs : List X) (k : ℕ) (x : X) → EachFits Fits before xs → slice_get xs k ≡ Some x → (those : List X) × Fits those x
fits_at Fits before [] k x each is = cc
fits_at Fits before (y ∷ xs) zero x each is = let same : y ≡ x = cc in (before, subst (Fits before) same each.0)
fits_at Fits before (y ∷ xs) (suc k) x each is = fits_at Fits (before ++ y ∷ []) xs k x each.1 is

-- so does the first one that passes a test
fits_found : {X : Type 0} (Fits : List X → X → Type 0) (test : X → Bool) (before xs : List X) (x : X) → EachFits Fits before xs → find test xs ≡ Some x → (those : List X) × Fits those x × (test x ≡ true)
fits_found Fits test before [] x each is = cc
fits_found Fits test before (y ∷ xs) x each is =
    elim (test y) as (λ b. test y ≡ b → cond b (Some y) (find test xs) ≡ Some x → (those : List _) × Fits those x × (test x ≡ true)) [
      | true ↦ λ passes found. let same : y ≡ x = cc in (before, subst (Fits before) same each.0, subst (λ z. test z ≡ true) same passes)
      | false ↦ λ fails found. fits_found Fits test (before ++ y ∷ []) xs x each.1 found
    ] refl is

-- the rules on ends and on travel times are kept
ends_kept : (known : Known) (form : Form) → breaks_early known form ≡ false → breaks_ends known form ≡ false
ends_kept known form early =
    let r6 = or_parts (breaks_order known form) _ early in
    let r7 = or_parts (breaks_new_name known form) _ r6.1 in
    let r8 = or_parts (breaks_declared known form) _ r7.1 in
    (or_parts (breaks_ends known form) _ r8.1).0

travel_kept : (known : Known) (form : Form) → breaks_early known form ≡ false → breaks_travel known form ≡ false
travel_kept known form early =
    let r6 = or_parts (breaks_order known form) _ early in
    let r7 = or_parts (breaks_new_name known form) _ r6.1 in
    let r8 = or_parts (breaks_declared known form) _ r7.1 in
    let r9 = or_parts (breaks_ends known form) _ r8.1 in
    let r10 = or_parts (breaks_owner known form) _ r9.1 in
    (or_parts (breaks_apart known form) (breaks_travel known form) r10.1).1

within_span : (over : Span) (test : ℕ → Bool) (t : ℕ) → throughout test over ≡ true → spans over t ≡ true → test t ≡ true
within_span over test t all inside =
    let bounds = and_parts _ _ inside in
    let from : over.a ≤ t = leb-true _ _ bounds.0 in
    let until : t < over.b = ltb-true _ _ bounds.1 in
    at_each-true test over.a (over.b - over.a) all t from (omega (arith, from, until))

one_span : (over : Span) (t : ℕ) → is_alive (over ∷ []) t ≡ true → spans over t ≡ true
one_span over t alive = elim (spans over t) as (λ b. (b || false) ≡ true → b ≡ true) [ true ↦ λ e. refl | false ↦ λ e. e ] alive

abbrev life_at : List PlainVertex → ℕ → List Span
life_at vertices v = vertex_life (record { horizon = 0; vertices = vertices; edges = []; vertex_properties = []; edge_properties = [] }) v

-- both ends are alive while the edge is
edge_fits_alive : (h : ℕ) (vertices : List PlainVertex) (before : List PlainEdge) (edge : PlainEdge) → EdgeFits h vertices before edge → (t : ℕ) → is_alive edge.life t ≡ true → (is_alive (life_at vertices edge.from) t ≡ true) × (is_alive (life_at vertices edge.to) t ≡ true)
edge_fits_alive h vertices before edge fits t alive =
    let kept = ends_kept (front h vertices before [] []) (edge_form vertices edge) fits.early in
    let from = fits.from in
    let to = fits.to in
    let both = not-false _ (rw (from, to) at kept) in
    let parts = and_parts _ _ both in
    let inside = one_span (first_span edge.life) t (subst (λ life. is_alive life t ≡ true) (sym fits.life) alive) in
    (within_span (first_span edge.life) (is_alive (life_at vertices edge.from)) t parts.0 inside, within_span (first_span edge.life) (is_alive (life_at vertices edge.to)) t parts.1 inside)

pub ends_alive : (graph : PlainGraph) → reading_of (canonical_text graph) ≡ Accepted graph → (e : ℕ) (edge : PlainEdge) → slice_get graph.edges e ≡ Some edge → (t : ℕ) → edge_is_alive graph e t ≡ true → (vertex_is_alive graph edge.from t ≡ true) × (vertex_is_alive graph edge.to t ≡ true)
ends_alive graph accepted e edge is t alive =
    let sound = accepted_is_sound (canonical_text graph) graph accepted in
    let fits = fits_at (EdgeFits graph.horizon graph.vertices) [] graph.edges e edge sound.edges is in
    edge_fits_alive graph.horizon graph.vertices fits.0 edge fits.1 t (rw is at alive)

-- the same of the ends that are read by the edge's number
pub ends_are_alive : (graph : PlainGraph) → reading_of (canonical_text graph) ≡ Accepted graph → (e : ℕ) (ends : Ends) → edge_ends graph e ≡ Some ends → (t : ℕ) → IsTrue (edge_is_alive graph e t) → IsTrue (vertex_is_alive graph ends.from t) × IsTrue (vertex_is_alive graph ends.to t)
ends_are_alive graph accepted e ends is t alive =
    elim (slice_get graph.edges e) as (λ o. slice_get graph.edges e ≡ o → option_map (λ (edge : PlainEdge). let pair : Ends = record { from = edge.from; to = edge.to } in pair) o ≡ Some ends → IsTrue (vertex_is_alive graph ends.from t) × IsTrue (vertex_is_alive graph ends.to t)) [
      | None ↦ λ there read. cc
      | Some edge ↦ λ there read.
          let both = ends_alive graph accepted e edge there t alive in
          let from : edge.from ≡ ends.from = cc in
          let to : edge.to ≡ ends.to = cc in
          (subst (λ v. vertex_is_alive graph v t ≡ true) from both.0, subst (λ v. vertex_is_alive graph v t ≡ true) to both.1)
    ] refl is

-- a property that says a travel time says one of at least 1
timed : (h : ℕ) (edges : List PlainEdge) (before : List PlainProperty) (property : PlainProperty) → EdgePropertyFits h edges before property → bytes_eq (codes "time") property.key ≡ true → 1 ≤ property.value
timed h edges before property fits named =
    let kept = travel_kept (front h [] edges [] before) (edge_property_form edges property) fits.early in
    let same : codes "time" ≡ property.key = (bytes_eq-Decides (codes "time") property.key).0 named in
    let key : bytes_eq property.key (codes "time") ≡ true = (bytes_eq-Decides property.key (codes "time")).1 (sym same) in
    let value : (property.value == 0) ≡ false = rw key at kept in
    ⊎_elim (λ (none : property.value < 1). absurd (false≢true (sym value ∙ eq-eqb property.value 0 (omega arith)))) (λ h. h) (cases_lt property.value 1)

pub travels : (graph : PlainGraph) → reading_of (canonical_text graph) ≡ Accepted graph → (e t : ℕ) → 1 ≤ travel_time graph e t
travels graph accepted e t =
    let sound = accepted_is_sound (canonical_text graph) graph accepted in
    elim (find (is_property_at e (codes "time") t) graph.edge_properties) as (λ o. find (is_property_at e (codes "time") t) graph.edge_properties ≡ o → 1 ≤ unwrap_or (option_map (λ property. property.value) o) 1) [
      | None ↦ λ is. omega arith
      | Some property ↦ λ is.
          let found = fits_found (EdgePropertyFits graph.horizon graph.edges) (is_property_at e (codes "time") t) [] graph.edge_properties property sound.edge_properties is in
          let parts = and_parts ((property.owner == e) && bytes_eq (codes "time") property.key) (spans property.over t) found.2 in
          timed graph.horizon graph.edges found.0 property found.1 (and_parts (property.owner == e) (bytes_eq (codes "time") property.key) parts.0).1
    ] refl
