-- The values of the hops of an edge, and its arcs.
use Rattle.std.proofs.Common.{◌≡◌, refl, sym, ap, subst, ◌∙◌, ℕ, ◌+◌, ◌-◌, ◌<◌, ◌≤◌, arith, Bool, true, false, cond, ◌&&◌, nat_lt, List, [], ◌++◌, All, map, length, get_or, Option, Some, None, option_map, is_some, ⊎_elim}
use Rattle.std.specs.List.{flat_map}
use Rattle.std.proofs.lemmas.Bool.{cases_lt, and_parts, false≢true}
use Rattle.std.proofs.lemmas.List.Elements.{All-append, All-map, All-weaker, at_read}
use Rattle.std.proofs.lemmas.Option.{none-some, same_Some, slice_get_past}
use Rattle.std.specs.Option.{option_map_or}
use Rattle.graphite_time.specs.declared.interval.Interval.{Interval}
use Rattle.graphite_time.specs.Interval.{start_of, end_of, holds}
use Rattle.graphite_time.specs.Life.{lifespan_at, IsLife}
use Rattle.graphite_time.proofs.LifeLemmas.{is_some-lifespan_at, lifespan_at-holds, holds-true, holds-from}
use Rattle.graphite_part.specs.declared.piece.Piece.{Piece}
use Rattle.graphite_part.specs.Pieces.{AreRuns}
use Rattle.graphite_part.proofs.PiecesLemmas.{value_at-get, holds_start}
use Rattle.graphite_text.specs.Graph.{PlainGraph, is_alive, vertex_is_alive, edge_is_alive, travel_time, travel_cost}
use Rattle.graphite_text.specs.Spans.{as_span}
use Rattle.graphite_graph.specs.declared.ends.Ends.{Ends}
use Rattle.graphite_graph.specs.Ends.{edge_ends}
use Rattle.graphite_api.specs.declared.arc.Arc.{Arc}
use Rattle.graphite_api.specs.Table.{life_of, vertex_is_alive as is_alive_in, IsArcOn}
use Rattle.graphite_api.specs.TableHops.{hop_along, StaysAt}
use Rattle.graphite_hops.specs.Arcs.{travel_at, RunsAdded}
use Rattle.graphite_hops.specs.Departures.{parts_of}
use Rattle.graphite_hops.specs.Hops.{is_hop, hop_at, IsHopOf, hop_values, hop_arc_between, hop_arc_on}
use Rattle.graphite_hops.specs.Links.{ends_of}
use Rattle.graphite_hops.proofs.DepartureLemmas.{value_into, all_parts-value, all_parts-chain}
use Rattle.graphite_hops.proofs.LinkLemmas.{table_alive, lives_count}
use Rattle.graphite_hops.proofs.TravelLemmas.{FitsEnds, ends_read}

-- ---- the values

-- a vertex is alive where one of its lifespans in the table holds the instant
alive_at : (graph : PlainGraph) (lives : List (List Interval)) (v t : ℕ) → map (map as_span) lives ≡ map (λ vertex. vertex.life) graph.vertices → vertex_is_alive graph v t ≡ is_some (lifespan_at (life_of lives v) t)
alive_at graph lives v t same = sym (table_alive graph lives lives v t same refl) ∙ sym (is_some-lifespan_at (life_of lives v) t)

-- nothing is alive in the table from the horizon on, since nothing is in the graph
pub table_below : (graph : PlainGraph) (lives table : List (List Interval)) (v t : ℕ) → map (map as_span) lives ≡ map (λ vertex. vertex.life) graph.vertices → table ≡ lives → ((v t : ℕ) → v < length graph.vertices → graph.horizon ≤ t → vertex_is_alive graph v t ≡ false) → is_alive_in table v t ≡ true → t < graph.horizon
table_below graph lives table v t same is ended alive =
    let held : vertex_is_alive graph v t ≡ true = sym (table_alive graph lives table v t same is) ∙ alive in
    ⊎_elim (λ (early : t < graph.horizon). early)
    (λ (late : graph.horizon ≤ t).
    ⊎_elim
    (λ (less : v < length graph.vertices). absurd (false≢true (sym (ended v t less late) ∙ held)))
    (λ (past : length graph.vertices ≤ v).
    absurd (false≢true (sym (ap (λ o. is_alive (option_map_or (λ vertex. vertex.life) o []) t) (slice_get_past graph.vertices v past)) ∙ held)))
    (cases_lt v (length graph.vertices)))
    (cases_lt t graph.horizon)

both_tests : {X : Type 0} (f : Interval → X) (below alive : Bool) (stay : Option Interval) → alive ≡ is_some stay → cond below (option_map f stay) None ≡ cond (below && alive) (option_map f stay) None
both_tests f true true stay is = refl
both_tests f true false None is = refl
both_tests f true false (Some stay) is = absurd (false≢true is)
both_tests f false alive stay is = refl

value-travel : (horizon : ℕ) (stays : List Interval) (t : ℕ) (x : ℕ × ℕ) (lives alive : Bool) → alive ≡ is_some (lifespan_at stays (t + x.0)) → value_into horizon stays t (cond lives (Some x) None) ≡ cond (lives && nat_lt (t + x.0) horizon && alive) (option_map (λ stay. (x, stay)) (lifespan_at stays (t + x.0))) None
value-travel horizon stays t x true alive is =
    both_tests (λ stay. (x, stay)) (nat_lt (t + x.0) horizon) alive (lifespan_at stays (t + x.0)) is
value-travel horizon stays t x false alive is = refl

-- the parts of the pieces of an edge's time and cost are the maximal runs of its hops
pub hop_runs : (graph : PlainGraph) (lives : List (List Interval)) (e horizon : ℕ) (stays : List Interval) (pieces : List (Piece (ℕ × ℕ))) → map (map as_span) lives ≡ map (λ vertex. vertex.life) graph.vertices → horizon ≡ graph.horizon → stays ≡ life_of lives (ends_of graph e).to → IsLife stays → AreRuns (travel_at graph e) pieces → AreRuns (hop_values graph lives e) (flat_map (parts_of horizon stays) pieces)
hop_runs graph lives e horizon stays pieces same below own life runs = record {
  in_order = all_parts-chain horizon stays pieces life runs.in_order;
  values = λ t.
      all_parts-value horizon stays pieces t runs.in_order
      ∙ ap (value_into horizon stays t) (runs.values t)
      ∙ ap (λ h. value_into h stays t (travel_at graph e t)) below
      ∙ ap (λ spans. value_into graph.horizon spans t (travel_at graph e t)) own
      ∙ value-travel graph.horizon (life_of lives (ends_of graph e).to) t (travel_time graph e t, travel_cost graph e t) (edge_is_alive graph e t) (vertex_is_alive graph (ends_of graph e).to (t + travel_time graph e t)) (alive_at graph lives (ends_of graph e).to (t + travel_time graph e t) same);
}

-- what the value at an instant says
pub record IsHopValue (graph : PlainGraph) (lives : List (List Interval)) (e t : ℕ) (x : (ℕ × ℕ) × Interval) : Type 0 where
  pub hop : is_hop graph e t ≡ true
  pub travel : (travel_time graph e t, travel_cost graph e t) ≡ x.0
  pub stay : lifespan_at (life_of lives (ends_of graph e).to) (t + travel_time graph e t) ≡ Some x.1

value_said : (hops : Bool) (travel : ℕ × ℕ) (stay : Option Interval) (x : (ℕ × ℕ) × Interval) → cond hops (option_map (λ s. (travel, s)) stay) None ≡ Some x → (hops ≡ true) × (travel ≡ x.0) × (stay ≡ Some x.1)
value_said true travel None x is = absurd (none-some x is)
value_said true travel (Some s) x is =
    let same = same_Some _ _ is in (refl, ap (λ (y : (ℕ × ℕ) × Interval). y.0) same, ap (λ (y : (ℕ × ℕ) × Interval). Some y.1) same)
value_said false travel stay x is = absurd (none-some x is)

pub hop_value : (graph : PlainGraph) (lives : List (List Interval)) (e t : ℕ) (x : (ℕ × ℕ) × Interval) → hop_values graph lives e t ≡ Some x → IsHopValue graph lives e t x
hop_value graph lives e t x is =
    let said = value_said (is_hop graph e t) (travel_time graph e t, travel_cost graph e t) (lifespan_at (life_of lives (ends_of graph e).to) (t + travel_time graph e t)) x is in
    record { hop = said.0; travel = said.1; stay = said.2 }

-- a hop has a value
some_value : (hops alive : Bool) (travel : ℕ × ℕ) (stay : Option Interval) → hops ≡ true → alive ≡ true → alive ≡ is_some stay → (x : (ℕ × ℕ) × Interval) × (cond hops (option_map (λ s. (travel, s)) stay) None ≡ Some x)
some_value true alive travel None hop lives is = absurd (false≢true (sym is ∙ lives))
some_value true alive travel (Some s) hop lives is = ((travel, s), refl)
some_value false alive travel stay hop lives is = absurd (false≢true hop)

pub value_of_hop : (graph : PlainGraph) (lives : List (List Interval)) (e t : ℕ) → map (map as_span) lives ≡ map (λ vertex. vertex.life) graph.vertices → is_hop graph e t ≡ true → (x : (ℕ × ℕ) × Interval) × (hop_values graph lives e t ≡ Some x)
value_of_hop graph lives e t same is =
    some_value (is_hop graph e t) (vertex_is_alive graph (ends_of graph e).to (t + travel_time graph e t)) (travel_time graph e t, travel_cost graph e t) (lifespan_at (life_of lives (ends_of graph e).to) (t + travel_time graph e t)) is
    (and_parts _ _ is).1 (alive_at graph lives (ends_of graph e).to (t + travel_time graph e t) same)

edge_alive : (graph : PlainGraph) (e t : ℕ) → is_hop graph e t ≡ true → edge_is_alive graph e t ≡ true
edge_alive graph e t is = (and_parts _ _ (and_parts _ _ is).0).0

-- only edges of the graph have hops
pub hop_within : (graph : PlainGraph) (e t : ℕ) → is_hop graph e t ≡ true → e < length graph.edges
hop_within graph e t is =
    ⊎_elim (λ (less : e < length graph.edges). less)
    (λ (past : length graph.edges ≤ e).
    absurd (false≢true (sym (ap (λ o. is_alive (option_map_or (λ edge. edge.life) o []) t) (slice_get_past graph.edges e past)) ∙ edge_alive graph e t is)))
    (cases_lt e (length graph.edges))

-- ---- the arc over a piece

-- each instant of the piece has its value
abbrev pub Says : {X : Type 0} → (ℕ → Option X) → Piece X → Type 0
Says values piece = (t : ℕ) → holds piece.over t ≡ true → values t ≡ Some piece.value

pub runs_say : {X : Type 0} (values : ℕ → Option X) (pieces : List (Piece X)) → AreRuns values pieces → All (Says values) pieces
runs_say values pieces runs = λ k d within t inside. sym (runs.values t) ∙ value_at-get pieces k t d runs.in_order within inside

-- an arc over it is along the hops at its instants
pub along_hop : (graph : PlainGraph) (lives : List (List Interval)) (e t : ℕ) (piece : Piece ((ℕ × ℕ) × Interval)) → IsHopValue graph lives e t piece.value → hop_along (hop_arc_on graph e piece) t ≡ hop_at graph e t
along_hop graph lives e t piece value =
    ap (λ (x : ℕ × ℕ). record { edge = e; from = (ends_of graph e).from; to = (ends_of graph e).to; depart = t; time = x.0; cost = x.1 }) (sym value.travel)

pub hops_along : (graph : PlainGraph) (lives : List (List Interval)) (e : ℕ) (piece : Piece ((ℕ × ℕ) × Interval)) → Says (hop_values graph lives e) piece → (t : ℕ) → holds piece.over t ≡ true → IsHopOf graph (hop_along (hop_arc_on graph e piece) t)
hops_along graph lives e piece says t inside =
    let value = hop_value graph lives e t piece.value (says t inside) in
    record { can = value.hop; is = along_hop graph lives e t piece value }

-- its arrivals are in the lifespan that it names
pub stays_along : (graph : PlainGraph) (lives : List (List Interval)) (e : ℕ) (piece : Piece ((ℕ × ℕ) × Interval)) → Says (hop_values graph lives e) piece → StaysAt lives (hop_arc_on graph e piece)
stays_along graph lives e piece says =
    let proper : start_of piece.over < end_of piece.over = piece.over.proper.0 in
    let last : ℕ = end_of piece.over - 1 in
    let first = hop_value graph lives e (start_of piece.over) piece.value (says (start_of piece.over) (holds_start piece.over)) in
    let final = hop_value graph lives e last piece.value (says last (holds-from piece.over last (omega (arith, proper)) (omega (arith, proper)))) in
    let time : travel_time graph e (start_of piece.over) ≡ piece.value.0.0 = ap (λ (x : ℕ × ℕ). x.0) first.travel in
    let time' : travel_time graph e last ≡ piece.value.0.0 = ap (λ (x : ℕ × ℕ). x.0) final.travel in
    let inside = holds-true piece.value.1 (last + travel_time graph e last) (lifespan_at-holds (life_of lives (ends_of graph e).to) (last + travel_time graph e last) piece.value.1 final.stay) in
    record {
      lifespan = ap (λ n. lifespan_at (life_of lives (ends_of graph e).to) (start_of piece.over + n)) (sym time) ∙ first.stay;
      last = omega (arith, inside.1, time', proper);
    }

-- it is between vertices of the table
arc_on_table : (graph : PlainGraph) (lives : List (List Interval)) (e : ℕ) (ends : Ends) (piece : Piece ((ℕ × ℕ) × Interval)) → map (map as_span) lives ≡ map (λ vertex. vertex.life) graph.vertices → FitsEnds graph e ends → Says (hop_values graph lives e) piece → IsArcOn lives (hop_arc_between e ends piece)
arc_on_table graph lives e ends piece same fits says =
    let count = lives_count lives graph.vertices same in
    let first = hop_value graph lives e (start_of piece.over) piece.value (says (start_of piece.over) (holds_start piece.over)) in
    record {
      from = omega (arith, fits.from, count);
      to = omega (arith, fits.to, count);
      time = subst (λ (x : ℕ × ℕ). 1 ≤ x.0) first.travel (fits.takes_time e (start_of piece.over));
      alive = λ t inside.
          table_alive graph lives lives ends.from t same refl
          ∙ fits.from_alive t (edge_alive graph e t (hop_value graph lives e t piece.value (says t inside)).hop);
    }

-- ---- the arcs of an edge

-- the lifespans that were read are those of the target
pub stays_read : (graph : PlainGraph) (lives : List (List Interval)) (e : ℕ) (ends : Ends) (life stays : List Interval) → map (map as_span) lives ≡ map (λ vertex. vertex.life) graph.vertices → edge_ends graph e ≡ Some ends → ends.to < length graph.vertices → life ≡ get_or lives ends.to life → stays ≡ life → stays ≡ life_of lives (ends_of graph e).to
stays_read graph lives e ends life stays same read within here is =
    let count = lives_count lives graph.vertices same in
    let inside : ends.to < length lives = omega (arith, within, count) in
    is ∙ at_read lives (λ x. life ≡ x) ends.to life inside here refl [] ∙ ap (λ (pair : Ends). life_of lives pair.to) (sym (ends_read graph e ends read))

pub hops_added : (graph : PlainGraph) (lives : List (List Interval)) (e : ℕ) (ends : Ends) (pieces : List (Piece ((ℕ × ℕ) × Interval))) (old new : List Arc) → edge_ends graph e ≡ Some ends → AreRuns (hop_values graph lives e) pieces → new ≡ old ++ map (hop_arc_between e ends) pieces → RunsAdded (hop_values graph lives e) (hop_arc_on graph e) old new
hops_added graph lives e ends pieces old new read runs is = record {
  pieces = pieces;
  runs = runs;
  added = is ∙ ap (λ (pair : Ends). old ++ map (hop_arc_between e pair) pieces) (sym (ends_read graph e ends read));
}

pub hops_fit : (graph : PlainGraph) (lives : List (List Interval)) (e : ℕ) (ends : Ends) (pieces : List (Piece ((ℕ × ℕ) × Interval))) (old new : List Arc) → map (map as_span) lives ≡ map (λ vertex. vertex.life) graph.vertices → FitsEnds graph e ends → AreRuns (hop_values graph lives e) pieces → new ≡ old ++ map (hop_arc_between e ends) pieces → All (IsArcOn lives) old → All (IsArcOn lives) new
hops_fit graph lives e ends pieces old new same fits runs is before =
    let own = All-weaker (Says (hop_values graph lives e)) (λ piece. IsArcOn lives (hop_arc_between e ends piece)) (λ piece says. arc_on_table graph lives e ends piece same fits says) pieces (runs_say (hop_values graph lives e) pieces runs) in
    subst (All (IsArcOn lives)) (sym is) (All-append (IsArcOn lives) old (map (hop_arc_between e ends) pieces) before (All-map (IsArcOn lives) (hop_arc_between e ends) pieces own))
