-- What is known after a property.
use Rattle.std.proofs.Common.{◌≡◌, refl, sym, ap, subst, ◌∙◌, ℕ, Bool, true, false, ◌&&◌, not, nat_lt, nat_le, List, Option, Some, None, is_none, unwrap_or, Result, Ok, Err, if◌then◌else◌, OnOk, IfErr}
use Rattle.graphite_time.specs.declared.interval.Interval.{Interval}
use Rattle.graphite_text.specs.declared.span.Span.{Span}
use Rattle.graphite_text.specs.Spans.{as_span}
use Rattle.graphite_text.specs.Graph.{vertex_number, edge_number}
use Rattle.graphite_text.specs.Forms.{Form, VertexProperty, EdgeProperty}
use Rattle.graphite_text.specs.Reading.{Known, breaks_owner, known_with, checked}
use Rattle.graphite_props.specs.Properties.{property}
use Rattle.graphite_graph.specs.declared.fault.Fault.{Fault}
use Rattle.graphite_graph.specs.declared.fault.Fault.TheVariants.{Rule, NoMemory}
use Rattle.graphite_graph.specs.Ends.{with_vertex_property, with_edge_property}
use Rattle.graphite_text.specs.Step.{broken_by_form}
use Rattle.graphite_graph.specs.Step.{after_form, owner_broken, vertex_property_broken, edge_property_broken, IsOpen, ExplainsRecord, ExplainsRule}

abbrev is_ordered : Known → Span → Bool
is_ordered known over = nat_lt over.a over.b && nat_le over.b known.graph.horizon

abbrev owner_rule : (missing outside : Bool) → Option ℕ
owner_rule missing outside = if missing then Some 8 else (if outside then Some 10 else None)

-- the rules of a property in their order
abbrev property_rule : (ordered missing outside : Bool) → Option ℕ → Option ℕ
property_rule ordered missing outside rest = if not ordered then Some 6 else (if missing then Some 8 else (if outside then Some 10 else rest))

unowned : (missing outside : Bool) (rest : Option ℕ) (rule : ℕ) → owner_rule missing outside ≡ Some rule → property_rule true missing outside rest ≡ Some rule
unowned true outside rest rule e = e
unowned false true rest rule e = e
unowned false false rest rule e = cc

owned : (missing outside : Bool) (rest : Option ℕ) → owner_rule missing outside ≡ None → property_rule true missing outside rest ≡ rest
owned true outside rest e = cc
owned false true rest e = cc
owned false false rest e = refl

-- a vertex's property without an owner for each of its instants
pub vertex_property-unowned : (known : Known) (owner key : List ℕ) (over : Span) (value rule : ℕ) (interval : Interval)
    → as_span interval ≡ over → true ≡ is_ordered known over
    → ((key : List ℕ) (value : ℕ) → owner_broken known (VertexProperty owner key (as_span interval) value) ≡ Some rule)
    → after_form known (VertexProperty owner key over value) ≡ Err rule
vertex_property-unowned known owner key over value rule interval same ordered broken =
    let form = VertexProperty owner key over value in
    let rest = vertex_property_broken known (unwrap_or (vertex_number known.graph owner) 0) key over in
    let here : owner_broken known form ≡ Some rule = subst (λ o. owner_broken known (VertexProperty owner key o value) ≡ Some rule) same (broken key value) in
    (λ i. checked (property_rule (sym ordered i) (is_none (vertex_number known.graph owner)) (breaks_owner known form) rest) (known_with known form))
    ∙ ap (λ b. checked b (known_with known form)) (unowned (is_none (vertex_number known.graph owner)) (breaks_owner known form) rest rule here)

-- a vertex's property with an owner breaks what it breaks among the properties
vertex_property-owned : (known : Known) (owner key : List ℕ) (over : Span) (value v : ℕ) (interval : Interval)
    → as_span interval ≡ over → true ≡ is_ordered known over → vertex_number known.graph owner ≡ Some v
    → ((key : List ℕ) (value : ℕ) → owner_broken known (VertexProperty owner key (as_span interval) value) ≡ None)
    → broken_by_form known (VertexProperty owner key over value) ≡ vertex_property_broken known v key (as_span interval)
vertex_property-owned known owner key over value v interval same ordered is_owner kept =
    let form = VertexProperty owner key over value in
    let rest = vertex_property_broken known (unwrap_or (vertex_number known.graph owner) 0) key over in
    let here : owner_broken known form ≡ None = subst (λ o. owner_broken known (VertexProperty owner key o value) ≡ None) same (kept key value) in
    (λ i. property_rule (sym ordered i) (is_none (vertex_number known.graph owner)) (breaks_owner known form) rest)
    ∙ owned (is_none (vertex_number known.graph owner)) (breaks_owner known form) rest here
    ∙ (λ i. vertex_property_broken known (unwrap_or (is_owner i) 0) key (sym same i))

known_with-vertex_property : (known : Known) (owner key : List ℕ) (over : Span) (value v : ℕ) (interval : Interval)
    → as_span interval ≡ over → IsOpen known → vertex_number known.graph owner ≡ Some v
    → known_with known (VertexProperty owner key over value) ≡ record known { graph = with_vertex_property known.graph (property v key interval value) }
known_with-vertex_property known owner key over value v interval same open_still is_owner =
    (λ i. record {
      started = sym open_still.started i;
      ended = sym open_still.open_still i;
      graph = with_vertex_property known.graph (record { owner = unwrap_or (is_owner i) 0; key = key; over = sym same i; value = value });
    })

pub after_form-vertex_property : {E : Type 0} (r : Result (Unit {0}) E) (known next : Known) (owner key : List ℕ) (over : Span) (value v : ℕ) (interval : Interval)
    → as_span interval ≡ over → true ≡ is_ordered known over → IsOpen known → vertex_number known.graph owner ≡ Some v
    → ((key : List ℕ) (value : ℕ) → owner_broken known (VertexProperty owner key (as_span interval) value) ≡ None)
    → OnOk r (vertex_property_broken known v key (as_span interval) ≡ None)
    → OnOk r (next ≡ record known { graph = with_vertex_property known.graph (property v key interval value) })
    → OnOk r (after_form known (VertexProperty owner key over value) ≡ Ok next)
after_form-vertex_property (Ok u) known next owner key over value v interval same ordered open_still is_owner kept unbroken grown =
    (λ i. checked ((vertex_property-owned known owner key over value v interval same ordered is_owner kept ∙ unbroken) i) (known_with known (VertexProperty owner key over value)))
    ∙ ap Ok (known_with-vertex_property known owner key over value v interval same open_still is_owner ∙ sym grown)
after_form-vertex_property (Err e) known next owner key over value v interval same ordered open_still is_owner kept unbroken grown = tt

explains : (known : Known) (form : Form) (broken : Option ℕ) (fault : Fault) → broken_by_form known form ≡ broken → ExplainsRule broken fault → ExplainsRecord known form fault
explains known form broken (Rule rule) e h = ap (λ b. checked b (known_with known form)) (e ∙ h)
explains known form broken NoMemory e h = tt

explained : {X : Type 0} (r : Result X Fault) (known : Known) (form : Form) (broken : Option ℕ) → broken_by_form known form ≡ broken
    → IfErr r (ExplainsRule broken) → IfErr r (ExplainsRecord known form)
explained (Ok x) known form broken e h = tt
explained (Err fault) known form broken e h = explains known form broken fault e h

pub vertex_property-refused : {X : Type 0} (r : Result X Fault) (known : Known) (owner key : List ℕ) (over : Span) (value v : ℕ) (interval : Interval)
    → as_span interval ≡ over → true ≡ is_ordered known over → vertex_number known.graph owner ≡ Some v
    → ((key : List ℕ) (value : ℕ) → owner_broken known (VertexProperty owner key (as_span interval) value) ≡ None)
    → IfErr r (ExplainsRule (vertex_property_broken known v key (as_span interval)))
    → IfErr r (ExplainsRecord known (VertexProperty owner key over value))
vertex_property-refused r known owner key over value v interval same ordered is_owner kept h =
    explained r known (VertexProperty owner key over value) _ (vertex_property-owned known owner key over value v interval same ordered is_owner kept) h

-- an edge's property without an owner for each of its instants
pub edge_property-unowned : (known : Known) (owner key : List ℕ) (over : Span) (value rule : ℕ) (interval : Interval)
    → as_span interval ≡ over → true ≡ is_ordered known over
    → ((key : List ℕ) (value : ℕ) → owner_broken known (EdgeProperty owner key (as_span interval) value) ≡ Some rule)
    → after_form known (EdgeProperty owner key over value) ≡ Err rule
edge_property-unowned known owner key over value rule interval same ordered broken =
    let form = EdgeProperty owner key over value in
    let rest = edge_property_broken known (unwrap_or (edge_number known.graph owner) 0) key over value in
    let here : owner_broken known form ≡ Some rule = subst (λ o. owner_broken known (EdgeProperty owner key o value) ≡ Some rule) same (broken key value) in
    (λ i. checked (property_rule (sym ordered i) (is_none (edge_number known.graph owner)) (breaks_owner known form) rest) (known_with known form))
    ∙ ap (λ b. checked b (known_with known form)) (unowned (is_none (edge_number known.graph owner)) (breaks_owner known form) rest rule here)

-- an edge's property with an owner breaks what it breaks among the properties
edge_property-owned : (known : Known) (owner key : List ℕ) (over : Span) (value e : ℕ) (interval : Interval)
    → as_span interval ≡ over → true ≡ is_ordered known over → edge_number known.graph owner ≡ Some e
    → ((key : List ℕ) (value : ℕ) → owner_broken known (EdgeProperty owner key (as_span interval) value) ≡ None)
    → broken_by_form known (EdgeProperty owner key over value) ≡ edge_property_broken known e key (as_span interval) value
edge_property-owned known owner key over value e interval same ordered is_owner kept =
    let form = EdgeProperty owner key over value in
    let rest = edge_property_broken known (unwrap_or (edge_number known.graph owner) 0) key over value in
    let here : owner_broken known form ≡ None = subst (λ o. owner_broken known (EdgeProperty owner key o value) ≡ None) same (kept key value) in
    (λ i. property_rule (sym ordered i) (is_none (edge_number known.graph owner)) (breaks_owner known form) rest)
    ∙ owned (is_none (edge_number known.graph owner)) (breaks_owner known form) rest here
    ∙ (λ i. edge_property_broken known (unwrap_or (is_owner i) 0) key (sym same i) value)

known_with-edge_property : (known : Known) (owner key : List ℕ) (over : Span) (value e : ℕ) (interval : Interval)
    → as_span interval ≡ over → IsOpen known → edge_number known.graph owner ≡ Some e
    → known_with known (EdgeProperty owner key over value) ≡ record known { graph = with_edge_property known.graph (property e key interval value) }
known_with-edge_property known owner key over value e interval same open_still is_owner =
    (λ i. record {
      started = sym open_still.started i;
      ended = sym open_still.open_still i;
      graph = with_edge_property known.graph (record { owner = unwrap_or (is_owner i) 0; key = key; over = sym same i; value = value });
    })

pub after_form-edge_property : {E : Type 0} (r : Result (Unit {0}) E) (known next : Known) (owner key : List ℕ) (over : Span) (value e : ℕ) (interval : Interval)
    → as_span interval ≡ over → true ≡ is_ordered known over → IsOpen known → edge_number known.graph owner ≡ Some e
    → ((key : List ℕ) (value : ℕ) → owner_broken known (EdgeProperty owner key (as_span interval) value) ≡ None)
    → OnOk r (edge_property_broken known e key (as_span interval) value ≡ None)
    → OnOk r (next ≡ record known { graph = with_edge_property known.graph (property e key interval value) })
    → OnOk r (after_form known (EdgeProperty owner key over value) ≡ Ok next)
after_form-edge_property (Ok u) known next owner key over value e interval same ordered open_still is_owner kept unbroken grown =
    (λ i. checked ((edge_property-owned known owner key over value e interval same ordered is_owner kept ∙ unbroken) i) (known_with known (EdgeProperty owner key over value)))
    ∙ ap Ok (known_with-edge_property known owner key over value e interval same open_still is_owner ∙ sym grown)
after_form-edge_property (Err error) known next owner key over value e interval same ordered open_still is_owner kept unbroken grown = tt

pub edge_property-refused : {X : Type 0} (r : Result X Fault) (known : Known) (owner key : List ℕ) (over : Span) (value e : ℕ) (interval : Interval)
    → as_span interval ≡ over → true ≡ is_ordered known over → edge_number known.graph owner ≡ Some e
    → ((key : List ℕ) (value : ℕ) → owner_broken known (EdgeProperty owner key (as_span interval) value) ≡ None)
    → IfErr r (ExplainsRule (edge_property_broken known e key (as_span interval) value))
    → IfErr r (ExplainsRecord known (EdgeProperty owner key over value))
edge_property-refused r known owner key over value e interval same ordered is_owner kept h =
    explained r known (EdgeProperty owner key over value) _ (edge_property-owned known owner key over value e interval same ordered is_owner kept) h
