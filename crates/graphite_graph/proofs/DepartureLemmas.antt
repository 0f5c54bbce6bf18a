-- Counts of departures: behind those of a vertex none leaves it, and their order does not matter.
use Rattle.std.proofs.Common.{◌≡◌, ◌≢◌, ℕ, suc, ◌+◌, ◌<◌, ◌≤◌, cond, ◌&&◌, eqb, List, [], ◌∷◌, ◌++◌, length, map, get_or, refl, sym, ap, ◌∙◌, arith, add-zero, subst}
use Rattle.std.specs.List.Sorted.{IsPermutation, IsNonDecreasingBy}
use Rattle.std.proofs.lemmas.List.{length-map}
use Rattle.std.proofs.lemmas.List.Sums.{sum_by-cons, sum_by-append}
use Rattle.std.proofs.lemmas.List.Sorted.{sum_by-IsPermutation, All-permutation}
use Rattle.std.proofs.lemmas.Bool.Decides.{nat_tests}
use Rattle.graphite_time.specs.declared.interval.Interval.{Interval}
use Rattle.graphite_time.specs.Life.{is_held, IsLife}
use Rattle.graphite_part.specs.Counts.{covers_at}
use Rattle.graphite_text.specs.Graph.{PlainGraph, is_alive, edge_life, edge_is_alive}
use Rattle.graphite_text.specs.Spans.{as_span}
use Rattle.graphite_graph.specs.declared.departure.Departure.{Departure}
use Rattle.graphite_graph.specs.Departure.{departing, departing_lifespans, GoFrom, HasEdge, HaveEdges}
use Rattle.graphite_graph.proofs.CoverLemmas.{covers_at-append, covers_at-life, is_alive-spans}

departing-cons : (graph : PlainGraph) (departure : Departure) (departures : List Departure) (v t : ℕ) → departing graph (departure ∷ departures) v t ≡ cond (eqb departure.from v && edge_is_alive graph departure.edge t) 1 0 + departing graph departures v t
departing-cons graph departure departures v t = sum_by-cons _ departure departures

departing_lifespans-cons : (graph : PlainGraph) (departure : Departure) (departures : List Departure) → departing_lifespans graph (departure ∷ departures) ≡ length (edge_life graph departure.edge) + departing_lifespans graph departures
departing_lifespans-cons graph departure departures = sum_by-cons _ departure departures

pub departing-push : (graph : PlainGraph) (departures : List Departure) (departure : Departure) (v t : ℕ) → departing graph (departures ++ departure ∷ []) v t ≡ departing graph departures v t + cond (eqb departure.from v && edge_is_alive graph departure.edge t) 1 0
departing-push graph departures departure v t =
    sum_by-append (λ d. cond (eqb d.from v && edge_is_alive graph d.edge t) 1 0) departures (departure ∷ [])
    ∙ ap (λ n. departing graph departures v t + n) (departing-cons graph departure [] v t ∙ add-zero _)

pub departing_lifespans-push : (graph : PlainGraph) (departures : List Departure) (departure : Departure) → departing_lifespans graph (departures ++ departure ∷ []) ≡ departing_lifespans graph departures + length (edge_life graph departure.edge)
departing_lifespans-push graph departures departure =
    sum_by-append (λ d. length (edge_life graph d.edge)) departures (departure ∷ [])
    ∙ ap (λ n. departing_lifespans graph departures + n) (departing_lifespans-cons graph departure [] ∙ add-zero _)

-- where the departures go on from a later vertex, none leaves this one
departing-later : (graph : PlainGraph) (departures : List Departure) (w v t : ℕ) → GoFrom w departures → v < w → departing graph departures v t ≡ 0
departing-later graph [] w v t go h = refl
departing-later graph (departure ∷ departures) w v t go h =
    let other : departure.from ≢ v = omega (arith, go.0) in
    departing-cons graph departure departures v t ∙ grind (arith, nat_tests, other, departing-later graph departures departure.from v t go.1 (omega (arith, go.0)))

pub departing-IsPermutation : (graph : PlainGraph) (xs ys : List Departure) (v t : ℕ) → IsPermutation xs ys → departing graph ys v t ≡ departing graph xs v t
departing-IsPermutation graph xs ys v t h = sum_by-IsPermutation _ xs ys h

pub HaveEdges-IsPermutation : (graph : PlainGraph) (xs ys : List Departure) → IsPermutation xs ys → HaveEdges graph xs → HaveEdges graph ys
HaveEdges-IsPermutation graph xs ys h edges =
    let same : departing_lifespans graph ys ≡ departing_lifespans graph xs = sum_by-IsPermutation _ xs ys h in
    record {
      in_range = All-permutation (HasEdge graph) xs ys h edges.in_range;
      few = omega (arith, same, edges.few);
    }

-- the lifespans of the edge of a departure from the vertex go to the covers, and the departure from the front
pub taken : (graph : PlainGraph) (covers spans : List Interval) (departure : Departure) (others : List Departure) (v t : ℕ) → map as_span spans ≡ edge_life graph departure.edge → IsLife spans → departure.from ≡ v
    → covers_at (covers ++ spans) t + departing graph others v t ≡ covers_at covers t + departing graph (departure ∷ others) v t
taken graph covers spans departure others v t same life from =
    let alive : is_held spans t ≡ edge_is_alive graph departure.edge t = sym (is_alive-spans spans t) ∙ ap (λ l. is_alive l t) same in
    let one : covers_at spans t ≡ cond (edge_is_alive graph departure.edge t) 1 0 = covers_at-life spans t life ∙ ap (λ b. cond b 1 0) alive in
    rw (covers_at-append covers spans t, one, departing-cons graph departure others v t) (grind (arith, nat_tests, from))

-- the departures behind the first have fewer lifespans by those of its edge
pub taken_lifespans : (graph : PlainGraph) (spans : List Interval) (departure : Departure) (others : List Departure) → map as_span spans ≡ edge_life graph departure.edge → length spans + departing_lifespans graph others ≡ departing_lifespans graph (departure ∷ others)
taken_lifespans graph spans departure others same =
    let many : length spans ≡ length (edge_life graph departure.edge) = sym (length-map spans as_span) ∙ ap length same in
    omega (arith, many, departing_lifespans-cons graph departure others)

-- a departure from the vertex is none from another
pub departing_other : (graph : PlainGraph) (departure : Departure) (others : List Departure) (v w t : ℕ) → departure.from ≡ v → v < w → departing graph (departure ∷ others) w t ≡ departing graph others w t
departing_other graph departure others v w t from h =
    let other : departure.from ≢ w = omega arith in
    departing-cons graph departure others w t ∙ grind (arith, nat_tests, other)

-- the departures go on from the vertex of the first
pub GoFrom-others : (v : ℕ) (departures : List Departure) (departure : Departure) (others : List Departure) → GoFrom v departures → departures ≡ departure ∷ others → departure.from ≡ v → GoFrom v others
GoFrom-others v departures departure others go front from =
    let go_on = subst (GoFrom v) front go in subst (λ w. GoFrom w others) from go_on.1

-- with a departure from another vertex at the front, they go on from the next vertex at least
pub GoFrom-next : (v : ℕ) (departures : List Departure) (departure : Departure) (others : List Departure) → GoFrom v departures → departures ≡ departure ∷ others → departure.from ≢ v → GoFrom (v + 1) departures
GoFrom-next v departures departure others go front other =
    let go_on = subst (GoFrom v) front go in subst (GoFrom (v + 1)) (sym front) (omega (arith, go_on.0, other), go_on.1)

-- where the first departure, if there is one, is from another vertex, none is from this one
pub gone : (graph : PlainGraph) (v : ℕ) (departures : List Departure) (t : ℕ) → GoFrom (v + 1) departures → departing graph departures v t ≡ 0
gone graph v departures t go = departing-later graph departures (v + 1) v t go (omega arith)

pub GoFrom-none : (v : ℕ) (departures : List Departure) → length departures ≡ 0 → GoFrom v departures
GoFrom-none v [] h = tt
GoFrom-none v (departure ∷ departures) h = absurd (omega arith)

-- neighbours go by their vertices
abbrev NeighboursGo : List Departure → Type 0
NeighboursGo departures = (k : ℕ) (d : Departure) → suc k < length departures → (get_or departures k d).from ≤ (get_or departures (suc k) d).from

GoFrom-neighbours : (departure : Departure) (departures : List Departure) → NeighboursGo (departure ∷ departures) → GoFrom departure.from departures
GoFrom-neighbours departure [] up = tt
GoFrom-neighbours departure (next ∷ departures) up =
    (up 0 departure (omega arith), GoFrom-neighbours next departures (λ k d h. up (suc k) d (omega arith)))

-- departures whose vertices do not fall
pub GoFrom-sorted : (departures : List Departure) → IsNonDecreasingBy (λ departure. departure.from) departures → GoFrom 0 departures
GoFrom-sorted [] up = tt
GoFrom-sorted (departure ∷ departures) up =
    (omega arith, GoFrom-neighbours departure departures (λ k d h. up k (suc k) d (omega arith) h))
