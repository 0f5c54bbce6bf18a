-- Enough steps: within one more than there are lifespans the values are settled, since lists of fewer hops than there are
-- lifespans are as good as any.
use Rattle.std.proofs.Common.{◌≡◌, ◌≢◌, refl, sym, ap, subst, ◌∙◌, ◌↔◌, ℕ, ◌+◌, ◌-◌, ◌<◌, ◌≤◌, IsTrue, List, [], ◌∷◌, length, map, sum_by, Option, Some, arith}
use Rattle.std.proofs.lemmas.Bool.{le-leb}
use Rattle.std.proofs.lemmas.List.{length-map}
use Rattle.std.proofs.lemmas.List.Sums.{sum_by-cons}
use Rattle.graphite_time.specs.declared.interval.Interval.{Interval}
use Rattle.graphite_text.specs.Graph.{PlainGraph}
use Rattle.graphite_text.specs.Spans.{as_span}
use Rattle.graphite_api.specs.declared.arc.Arc.{Arc}
use Rattle.graphite_api.specs.declared.kind.Kind.{Kind}
use Rattle.graphite_api.specs.declared.kind.Kind.TheVariants.{Reach, Earliest, Cheapest, Fastest, Latest}
use Rattle.graphite_api.specs.declared.path_query.PathQuery.{PathQuery}
use Rattle.graphite_api.specs.Attained.{IsAttainedWithin, IsBestAttained}
use Rattle.graphite_api.specs.Hop.{Hop, Waits}
use Rattle.graphite_api.specs.Journey.{journey_value, IsBestWithin}
use Rattle.graphite_api.specs.KindValues.{values_of}
use Rattle.graphite_api.specs.Search.{IsJourneySearch}
use Rattle.graphite_api.specs.Table.{vertex_is_alive, IsTable}
use Rattle.graphite_api.specs.TableHops.{lifespans, IsHopOn}
use Rattle.graphite_api.specs.Values.{Values}
use Rattle.graphite_api.proofs.BestLemmas.{IsBest-other, IsBest-part}
use Rattle.graphite_api.proofs.CrossingLemmas.{IsReversed, attained-journey, journey-attained, attained-within, within-attained}
use Rattle.graphite_api.proofs.DepartureLemmas.{hop_takes_time}
use Rattle.graphite_api.proofs.EnoughLemmas.{enough}
use Rattle.graphite_api.proofs.KindLemmas.{values_are_lawful}
use Rattle.graphite_api.proofs.WaitLemmas.{waits-last, waits-through}
use Rattle.graphite_graph.specs.Ends.{lifespan_count}
use Rattle.graphite_paths.specs.Answer.{IsSettledWithin}

-- of a search, the best values of lists of as many hops as there are lifespans are those of longer lists
module _ (values : Values) (lives : List (List Interval)) (IsHop : Hop → Type 0) (start : ℕ → ℕ → Option ℕ) (search : IsJourneySearch values lives IsHop start) (fewer more : ℕ) (some : lifespans lives ≤ fewer) (order : fewer ≤ more) (v t : ℕ) where
  abbrev Within : ℕ → ℕ → Type 0
  Within k x = IsAttainedWithin values (vertex_is_alive lives) IsHop start k v t x

  longer : (k l x : ℕ) → k ≤ l → Within k x → Within l x
  longer k l x low within = let few : length within.0 < k = within.1 in (within.0, omega arith, within.2)

  shorter : (y : ℕ) → Within more y → (x : ℕ) × Within fewer x × IsTrue (values.good x y)
  shorter y within =
      let found = enough values lives IsHop start search within.0 v t y within.2 in
      (found.0, longer (lifespans lives) fewer found.0 some found.1, found.2)

  pub same_best : (o : Option ℕ) → IsBestAttained values (vertex_is_alive lives) IsHop start fewer v t o ↔ IsBestAttained values (vertex_is_alive lives) IsHop start more v t o
  same_best o = (
    IsBest-other (λ x y. IsTrue (values.good x y)) (Within more) (Within fewer) o search.lawful.through (λ x. longer fewer more x order) shorter,
    IsBest-part (λ x y. IsTrue (values.good x y)) (Within more) (Within fewer) o search.lawful.one (λ x. longer fewer more x order) shorter,
  )

-- the value of a journey without hops can stand wherever it leads
stands-waiting : (kind : Kind) → kind ≢ Latest → (at t : ℕ) → at ≤ t → IsTrue ((values_of kind).stands (journey_value kind at []) t)
stands-waiting Reach other at t order = refl
stands-waiting Earliest other at t order = le-leb at t order
stands-waiting Cheapest other at t order = refl
stands-waiting Fastest other at t order = refl
stands-waiting Latest other at t order = absurd (other refl)

-- a question about journeys from a vertex, with the best values of journeys without hops
module _ (lives : List (List Interval)) (IsHop : Hop → Type 0) (takes_time : (hop : Hop) → IsHop hop → 1 ≤ hop.time) (query : PathQuery) (other : query.kind ≢ Latest) (start : ℕ → ℕ → Option ℕ) (starts : (v t : ℕ) → IsBestWithin (vertex_is_alive lives) IsHop query 1 v t (start v t)) where
  begun : (v t x : ℕ) → start v t ≡ Some x → IsReversed (vertex_is_alive lives) IsHop query [] v t x
  begun v t x is = attained-journey (vertex_is_alive lives) IsHop query other start starts [] v t x is

  kept : (v p q x : ℕ) → Waits (vertex_is_alive lives) v p q → start v p ≡ Some x → (y : ℕ) × (start v q ≡ Some y) × IsTrue ((values_of query.kind).good y x)
  kept v p q x waits is =
      let from = begun v p x is in
      let waited = waits-through (vertex_is_alive lives) v from.at p q from.leads.1 waits in
      let found = journey-attained (vertex_is_alive lives) IsHop query other start starts [] from.at v q from.from from.until (from.leads.0, waited) in
      (found.0, found.1, subst (λ y. IsTrue ((values_of query.kind).good found.0 y)) from.is found.2)

  -- is a search for them
  pub question_is_search : IsJourneySearch (values_of query.kind) lives IsHop start
  question_is_search = record {
    lawful = values_are_lawful query.kind;
    takes_time = takes_time;
    alive = λ v t x is. let from = begun v t x is in waits-last (vertex_is_alive lives) v from.at t from.leads.1;
    stands = λ v t x is.
        let from = begun v t x is in
        subst (λ y. IsTrue ((values_of query.kind).stands y t)) from.is (stands-waiting query.kind other from.at t from.leads.1.order);
    kept = kept;
  }

  -- which is settled within one step more than there are lifespans
  pub settled_by_lifespans : (steps : ℕ) → lifespans lives + 1 ≤ steps → IsSettledWithin (vertex_is_alive lives) IsHop query steps
  settled_by_lifespans steps more v t o =
      let same = same_best (values_of query.kind) lives IsHop start question_is_search (steps - 1) steps (omega (arith, more)) (omega arith) v t o in (
        λ best. attained-within (vertex_is_alive lives) IsHop query other start starts steps v t o (same.0 (within-attained (vertex_is_alive lives) IsHop query other start starts (steps - 1) v t o best)),
        λ best. attained-within (vertex_is_alive lives) IsHop query other start starts (steps - 1) v t o (same.1 (within-attained (vertex_is_alive lives) IsHop query other start starts steps v t o best)),
      )

-- the same on a table
pub enough_on_table : (lives : List (List Interval)) (arcs : List Arc) → IsTable lives arcs → (query : PathQuery) → query.kind ≢ Latest → (start : ℕ → ℕ → Option ℕ) → ((v t : ℕ) → IsBestWithin (vertex_is_alive lives) (IsHopOn arcs) query 1 v t (start v t)) → (steps : ℕ) → lifespans lives + 1 ≤ steps → IsSettledWithin (vertex_is_alive lives) (IsHopOn arcs) query steps
enough_on_table lives arcs table query other start starts steps more =
    settled_by_lifespans lives (IsHopOn arcs) (hop_takes_time lives arcs table.arcs_on) query other start starts steps more

-- the lifespans of the table of a graph are those of the graph
lengths-mapped : {X Y Z : Type 0} (f : X → Y) (g : Z → List Y) (lists : List (List X)) (others : List Z) → map (map f) lists ≡ map g others → sum_by (λ list. length list) lists ≡ sum_by (λ z. length (g z)) others
lengths-mapped {X} {Y} {Z} f g lists others are = counted lists ∙ ap (sum_by length) are ∙ sym (summed others)
  where
    counted : (lists : List (List X)) → sum_by (λ list. length list) lists ≡ sum_by (λ list. length list) (map (map f) lists)
    counted [] = refl
    counted (list ∷ lists) =
        omega (arith, sum_by-cons (λ (list : List X). length list) list lists, sum_by-cons (λ (list : List Y). length list) (map f list) (map (map f) lists), length-map list f, counted lists)

    summed : (others : List Z) → sum_by (λ z. length (g z)) others ≡ sum_by (λ list. length list) (map g others)
    summed [] = refl
    summed (z ∷ others) =
        omega (arith, sum_by-cons (λ (z : Z). length (g z)) z others, sum_by-cons (λ (list : List Y). length list) (g z) (map g others), summed others)

pub lifespans_of_graph : (graph : PlainGraph) (lives : List (List Interval)) → map (map as_span) lives ≡ map (λ vertex. vertex.life) graph.vertices → lifespans lives ≡ lifespan_count graph
lifespans_of_graph graph lives are = lengths-mapped as_span (λ vertex. vertex.life) lives graph.vertices are
