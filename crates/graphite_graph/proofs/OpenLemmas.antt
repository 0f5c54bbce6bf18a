-- A graph whose properties stand beside its store: what one more vertex or edge changes.
use Rattle.std.proofs.Common.{◌≡◌, ap, ◌≤◌, ◌∷◌, [], ℕ, Bool, true, false, List, length, length-append, arith, Result, Ok, Err, if◌then◌else◌, IfOk, OnErr}
use Rattle.graphite_text.specs.declared.span.Span.{Span}
use Rattle.graphite_text.specs.Graph.{PlainGraph, PlainVertex, PlainEdge, PlainProperty}
use Rattle.graphite_graph.specs.declared.ends.Ends.{Ends}
use Rattle.graphite_graph.specs.Ends.{with_vertex, with_edge}
use Rattle.graphite_graph.specs.Store.{with_properties}

pub opened-vertex : {E : Type 0} (r : Result Bool E) (old new : PlainGraph) (vs es : List PlainProperty) (name : List ℕ) (over : Span)
    → IfOk r (λ added. new ≡ (if added then with_vertex old name over else old))
    → IfOk r (λ added. with_properties new vs es ≡ (if added then with_vertex (with_properties old vs es) name over else with_properties old vs es))
opened-vertex (Ok true) old new vs es name over is = ap (λ graph. with_properties graph vs es) is
opened-vertex (Ok false) old new vs es name over is = ap (λ graph. with_properties graph vs es) is
opened-vertex (Err e) old new vs es name over is = is

pub opened-edge : {E : Type 0} (r : Result Bool E) (old new : PlainGraph) (vs es : List PlainProperty) (name : List ℕ) (ends : Ends) (over : Span)
    → IfOk r (λ added. new ≡ (if added then with_edge old name ends over else old))
    → IfOk r (λ added. with_properties new vs es ≡ (if added then with_edge (with_properties old vs es) name ends over else with_properties old vs es))
opened-edge (Ok true) old new vs es name ends over is = ap (λ graph. with_properties graph vs es) is
opened-edge (Ok false) old new vs es name ends over is = ap (λ graph. with_properties graph vs es) is
opened-edge (Err e) old new vs es name ends over is = is

-- neither vertices nor edges become fewer
pub no_fewer-vertex : {E : Type 0} (r : Result Bool E) (old new : PlainGraph) (name : List ℕ) (over : Span)
    → IfOk r (λ added. new ≡ (if added then with_vertex old name over else old)) → OnErr r (new ≡ old)
    → (length old.vertices ≤ length new.vertices) × (length old.edges ≤ length new.edges)
no_fewer-vertex (Ok true) old new name over is err =
    let one : PlainVertex = record { name = name; life = over ∷ [] } in
    (omega (arith, ap (λ graph. length graph.vertices) is, length-append old.vertices (one ∷ [])), omega (arith, ap (λ graph. length graph.edges) is))
no_fewer-vertex (Ok false) old new name over is err =
    (omega (arith, ap (λ graph. length graph.vertices) is), omega (arith, ap (λ graph. length graph.edges) is))
no_fewer-vertex (Err e) old new name over is err =
    (omega (arith, ap (λ graph. length graph.vertices) err), omega (arith, ap (λ graph. length graph.edges) err))

pub no_fewer-edge : {E : Type 0} (r : Result Bool E) (old new : PlainGraph) (name : List ℕ) (ends : Ends) (over : Span)
    → IfOk r (λ added. new ≡ (if added then with_edge old name ends over else old)) → OnErr r (new ≡ old)
    → (length old.vertices ≤ length new.vertices) × (length old.edges ≤ length new.edges)
no_fewer-edge (Ok true) old new name ends over is err =
    let one : PlainEdge = record { name = name; from = ends.from; to = ends.to; life = over ∷ [] } in
    (omega (arith, ap (λ graph. length graph.vertices) is), omega (arith, ap (λ graph. length graph.edges) is, length-append old.edges (one ∷ [])))
no_fewer-edge (Ok false) old new name ends over is err =
    (omega (arith, ap (λ graph. length graph.vertices) is), omega (arith, ap (λ graph. length graph.edges) is))
no_fewer-edge (Err e) old new name ends over is err =
    (omega (arith, ap (λ graph. length graph.vertices) err), omega (arith, ap (λ graph. length graph.edges) err))
