-- The written journeys of a graph: those of the table of its arcs, and the report that tells them.
use Rattle.std.proofs.Common.{◌≡◌, ◌↔◌, refl, sym, ap, subst, ◌∙◌, ℕ, ◌+◌, ◌<◌, Bool, true, IsTrue, List, [], ◌∷◌, ◌++◌, All, length, get_or, map, Option, None, Some, Result, Ok, Err, OnOk, OnErr, arith, inl}
use Rattle.std.specs.Prelude.{codes, slice_get}
use Rattle.std.specs.Option.{option_map_or}
use mathlib.Core.Path.{fun_ext}
use Rattle.std.proofs.lemmas.Bool.{and_parts, false≢true}
use Rattle.std.proofs.lemmas.Option.{slice_get_within}
use Rattle.std.proofs.lemmas.List.{length-map}
use Rattle.std.proofs.lemmas.List.Elements.{Contains-get_or}
use Rattle.std.specs.Io.KnownBytes.{Appends}
use Rattle.graphite_time.specs.declared.interval.Interval.{Interval}
use Rattle.graphite_time.specs.Interval.{start_of}
use Rattle.graphite_part.specs.declared.piece.Piece.{Piece}
use Rattle.graphite_part.proofs.PiecesLemmas.{holds_start}
use Rattle.graphite_text.specs.Graph.{PlainGraph, PlainEdge, PlainVertex, edge_is_alive, is_alive, vertex_is_alive}
use Rattle.graphite_text.specs.Spans.{as_span}
use Rattle.graphite_base.specs.Causes.{Rose}
use Rattle.graphite_api.specs.declared.arc.Arc.{Arc}
use Rattle.graphite_api.specs.declared.duration.Duration.{Duration}
use Rattle.graphite_api.specs.declared.kind.Kind.{Kind}
use Rattle.graphite_api.specs.declared.kind.Kind.TheVariants.{Reach, Earliest, Cheapest, Fastest, Latest}
use Rattle.graphite_api.specs.declared.path_query.PathQuery.{PathQuery}
use Rattle.graphite_api.specs.Hop.{Hop, arrival}
use Rattle.graphite_api.specs.Journey.{IsAsGood, IsAskedFor, IsBestOverAll, IsJourney, IsValueWithin}
use Rattle.graphite_api.specs.Table.{vertex_is_alive as is_alive_in}
use Rattle.graphite_api.specs.TableHops.{hop_along, IsHopOn, StaysAt}
use Rattle.graphite_api.proofs.BestLemmas.{IsBest-same}
use Rattle.graphite_hops.specs.Hops.{is_hop, IsHopOf}
use Rattle.graphite_loop.specs.Journeys.{vertex_value}
use Rattle.graphite_paths.specs.Answer.{AreOnLives}
use Rattle.graphite_report.specs.declared.fault.ReportFault.{ReportFault}
use Rattle.graphite_report.specs.declared.fault.ReportFault.TheVariants as fault
use Rattle.graphite_report.specs.Given.{durations_in, values_in, TellsSteps}
use Rattle.graphite_report.specs.Report.{Heading, Values, duration_line, first_line, name_of_edge, name_of_vertex, one_path_lines, one_path_report, path_lines, paths_report}
use Rattle.graphite_report.specs.Written.{AppendsPrefix}
use Rattle.graphite_witness.specs.declared.step.Step.{Step}
use Rattle.graphite_witness.specs.Answered.{value_for, IsAnswered}
use Rattle.graphite_witness.specs.Steps.{AreSteps}
use Rattle.graphite_witness.proofs.SameLemmas.{AreSteps-same}
use Rattle.graphite_words.specs.declared.query.Report.{Report}
use Rattle.graphite_top.specs.declared.told.Whose.{Whose}
use Rattle.graphite_top.specs.declared.told.Whose.TheVariants as whose
use Rattle.graphite_top.specs.Answer.{path_heading, report_answer}
use Rattle.graphite_top.specs.Call.{WritesThis}
use Rattle.graphite_top.specs.Found.{status_of, IsFound}
use Rattle.graphite_top.specs.Journeys.{JourneyAsk, AreTold, IsJourneyAnswer, journeys_text, printed_on}
use Rattle.graphite_top.specs.Output.{IsToldIn}
use Rattle.graphite_top.proofs.PathLemmas.{once_of, printed}
use Rattle.graphite_top.proofs.SnapLemmas.{same_reports}

-- ---- what is there by some hops is there by more of them

module _ (alive : ℕ → ℕ → Bool) (IsHop IsHop' : Hop → Type 0) (to : (hop : Hop) → IsHop hop → IsHop' hop) where
  journey-by : (s p : ℕ) (hops : List Hop) (v q : ℕ) → IsJourney alive IsHop s p hops v q → IsJourney alive IsHop' s p hops v q
  journey-by s p [] v q leads = leads
  journey-by s p (hop ∷ hops) v q leads = (to hop leads.0, leads.1, leads.2, journey-by hop.to (arrival hop) hops v q leads.3)

  asked-by : (kind : Kind) (vertex at : ℕ) (hops : List Hop) (v t : ℕ) → IsAskedFor alive IsHop kind vertex at hops v t → IsAskedFor alive IsHop' kind vertex at hops v t
  asked-by Reach vertex at hops v t leads = journey-by vertex at hops v t leads
  asked-by Earliest vertex at hops v t leads = journey-by vertex at hops v t leads
  asked-by Cheapest vertex at hops v t leads = journey-by vertex at hops v t leads
  asked-by Fastest vertex at hops v t leads = journey-by vertex at hops v t leads
  asked-by Latest vertex at hops v t leads = journey-by v t hops vertex at leads

  value-by : (query : PathQuery) (v t x : ℕ) → (k : ℕ) × IsValueWithin alive IsHop query k v t x → (k : ℕ) × IsValueWithin alive IsHop' query k v t x
  value-by query v t x (k, value) = (
    k,
    record {
      at = value.at;
      hops = value.hops;
      from = value.from;
      until = value.until;
      leads = asked-by query.kind query.vertex value.at value.hops v t value.leads;
      short = value.short;
      is = value.is;
    },
  )

-- so equal hops have equal best values
best-same : (alive alive' : ℕ → ℕ → Bool) (IsHop IsHop' : Hop → Type 0) → ((v t : ℕ) → alive v t ≡ alive' v t) → ((hop : Hop) → IsHop hop ↔ IsHop' hop) → (query : PathQuery) (v t : ℕ) (value : Option ℕ) → IsBestOverAll alive IsHop query v t value → IsBestOverAll alive' IsHop' query v t value
best-same alive alive' IsHop IsHop' lives hops query v t value best =
    let same : alive ≡ alive' = fun_ext (λ v. fun_ext (λ t. lives v t)) in
    subst (λ alive. IsBestOverAll alive IsHop' query v t value) same
    (IsBest-same (IsAsGood query.kind) (λ x. (k : ℕ) × IsValueWithin alive IsHop query k v t x) (λ x. (k : ℕ) × IsValueWithin alive IsHop' query k v t x) value
    (value-by alive IsHop IsHop' (λ hop. (hops hop).0) query v t) (value-by alive IsHop' IsHop (λ hop. (hops hop).1) query v t) best)

-- ---- the table of the arcs of a graph

-- it has a life for each vertex
pub lives-count : (lives : List (List Interval)) (vertices : List PlainVertex) → map (map as_span) lives ≡ map (λ vertex. vertex.life) vertices → length lives ≡ length vertices
lives-count lives vertices same =
    sym (length-map lives (map as_span)) ∙ ap length same ∙ length-map vertices (λ (vertex : PlainVertex). vertex.life)

edge-of : (o : Option PlainEdge) (t : ℕ) → is_alive (option_map_or (λ edge. edge.life) o []) t ≡ true → (edge : PlainEdge) × (o ≡ Some edge)
edge-of None t alive = absurd (false≢true alive)
edge-of (Some edge) t alive = (edge, refl)

module _ (graph : PlainGraph) (lives : List (List Interval)) (arcs : List Arc) (lives_are : (v t : ℕ) → is_alive_in lives v t ≡ vertex_is_alive graph v t) (hops_are : (hop : Hop) → IsHopOn arcs hop ↔ IsHopOf graph hop) where
  -- each arc is along an edge of the graph, since that can be entered at its first instant
  pub edges-of : (k : ℕ) (d : Arc) → k < length arcs → (get_or arcs k d).edge < length graph.edges
  edges-of k d less =
      let arc : Arc = get_or arcs k d in
      let hop : Hop = hop_along arc (start_of arc.over) in
      let on : IsHopOn arcs hop = record { arc = arc; among = Contains-get_or arcs k d less; held = holds_start arc.over; is = refl } in
      let can : is_hop graph arc.edge (start_of arc.over) ≡ true = ((hops_are hop).0 on).can in
      let alive : edge_is_alive graph arc.edge (start_of arc.over) ≡ true = (and_parts _ _ (and_parts _ _ can).0).0 in
      let edge = edge-of (slice_get graph.edges arc.edge) (start_of arc.over) alive in
      slice_get_within graph.edges arc.edge edge.0 edge.1

  -- what is found for the graph is the answer on the table
  pub answered-of : (query : PathQuery) (all : List (List (Piece (Option ℕ)))) → All (StaysAt lives) arcs → length lives ≡ length graph.vertices
      → ((v t : ℕ) → IsBestOverAll (vertex_is_alive graph) (IsHopOf graph) query v t (vertex_value all v t)) → AreOnLives (vertex_is_alive graph) (length graph.vertices) all
      → IsAnswered lives arcs query all
  answered-of query all stays count best on = record {
    stays = stays;
    once = λ hop other is again edge depart. once_of graph hop other ((hops_are hop).0 is) ((hops_are other).0 again) edge depart;
    len = on.len ∙ sym count;
    on_lives = λ v t less.
        let within : v < length graph.vertices = omega (arith, less, count) in (
          λ some. subst IsTrue (sym (lives_are v t)) ((on.lives v t within).0 some),
          λ alive. (on.lives v t within).1 (subst IsTrue (lives_are v t) alive),
        );
    best = λ v t. best-same (vertex_is_alive graph) (is_alive_in lives) (IsHopOf graph) (IsHopOn arcs) (λ v t. sym (lives_are v t)) (λ hop. ((hops_are hop).1, (hops_are hop).0)) query v t (vertex_value all v t) (best v t);
  }

  -- the steps that are told: none where there is no value
  abbrev told : Option ℕ → List Step → List Step
  told None steps = []
  told (Some x) steps = steps

  module _ (query : PathQuery) (all : List (List (Piece (Option ℕ)))) (exist : (steps : ℕ → ℕ → List Step) × ((v t x : ℕ) → value_for all v t ≡ Some x → AreSteps (is_alive_in lives) (IsHopOn arcs) query v t (steps v t))) where
    abbrev pub told_steps : ℕ → ℕ → List Step
    told_steps v t = told (value_for all v t) (exist.0 v t)

    pub tells-steps : TellsSteps (is_alive_in lives) (IsHopOn arcs) query all told_steps
    tells-steps v t x value =
        subst (λ o. AreSteps (is_alive_in lives) (IsHopOn arcs) query v t (told o (exist.0 v t))) (sym value) (exist.1 v t x value)

    pub are-told : (v t : ℕ) → AreTold graph query v t (vertex_value all v t) (told_steps v t)
    are-told v t = by (value_for all v t) refl
      where
        by : (o : Option ℕ) → value_for all v t ≡ o → AreTold graph query v t o (told o (exist.0 v t))
        by None value = refl
        by (Some x) value = AreSteps-same (is_alive_in lives) (vertex_is_alive graph) (IsHopOn arcs) (IsHopOf graph) lives_are hops_are query v t (exist.0 v t) (exist.1 v t x value)

-- ---- the report

-- equal values have equal reports with journeys
pub same_told : (which : Whose) (report : Report) (heading : Heading) (graph : PlainGraph) (f g : ℕ → Values) (durations : ℕ → Option (Option Duration)) (steps : ℕ → ℕ → List Step) → IsToldIn graph (Some which) → ((v : ℕ) → v < 0 + length graph.vertices → f v ≡ g v)
    → journeys_text (Some which) report heading graph f durations steps ≡ journeys_text (Some which) report heading graph g durations steps
unfolding paths_report one_path_report
same_told whose.All report heading graph f g durations steps within same =
    same_reports heading graph (λ v name. path_lines name (name_of_edge graph) (f v) (steps v) graph.horizon ++ duration_line name (durations v)) (λ v name. path_lines name (name_of_edge graph) (g v) (steps v) graph.horizon ++ duration_line name (durations v))
    (λ v h. ap (λ values name. path_lines name (name_of_edge graph) values (steps v) graph.horizon ++ duration_line name (durations v)) (same v h))
same_told (whose.One v t) report heading graph f g durations steps within same =
    ap (λ values. first_line heading ++ one_path_lines (name_of_vertex graph v) (name_of_edge graph) t (values t) (steps v t) ++ codes "end\n") (same v (omega (arith, within)))

-- the report of the values that were found, with the journeys, is the one that is asked for
pub report_of_journeys : (ask : JourneyAsk) (all : List (List (Piece (Option ℕ)))) (durations : List (Option Duration)) (made : ℕ) → IsFound ask all durations made
    → (which : Whose) → ask.journeys ≡ Some which → IsToldIn ask.graph (Some which) → (steps : ℕ → ℕ → List Step) → ((v t : ℕ) → AreTold ask.graph ask.query v t (vertex_value all v t) (steps v t))
    → IsJourneyAnswer ask (report_answer (journeys_text (Some which) ask.report (path_heading ask.word made) ask.graph (values_in all) (durations_in durations) steps))
report_of_journeys ask all durations made found which some within steps are =
    inl (
      found.settled,
      (
        journeys_text (Some which) ask.report (path_heading ask.word made) ask.graph (values_in all) (durations_in durations) steps,
        record {
          best = vertex_value all;
          are_best = found.best;
          durations = durations;
          are_durations = found.lasting;
          made = made;
          first = found.first;
          steps = steps;
          are_told = λ h. are;
          is = same_told which ask.report (path_heading ask.word made) ask.graph (values_in all) (printed_on ask.graph (vertex_value all)) (durations_in durations) steps within (printed ask.graph all found.on)
              ∙ ap (λ journeys. journeys_text journeys ask.report (path_heading ask.word made) ask.graph (printed_on ask.graph (vertex_value all)) (durations_in durations) steps) (sym some);
        },
        refl,
      ),
    )

-- what the writing of a report did, by the status that it ends with
pub report-written : (written : Result (Unit {0}) ReportFault) (text : List ℕ) (old new : Option (List ℕ)) (before now : ℕ) → OnOk written (Appends old new text) → OnErr written (AppendsPrefix old new text) → (written ≡ Err fault.WriteFailed → Rose before now)
    → WritesThis (status_of written) (report_answer text) old new before now
report-written (Ok done) text old new before now ok err failed = (refl, ok)
report-written (Err fault.WriteFailed) text old new before now ok err failed = (err, failed refl)
report-written (Err fault.NoMemory) text old new before now ok err failed = err
