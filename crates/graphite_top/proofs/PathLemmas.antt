-- The answer of a run of a program of journeys is what its report is made of, and it is the only one.
use Rattle.std.proofs.Common.{◌≡◌, ℕ, ◌+◌, ◌<◌, ◌≤◌, ◌⊎◌, Bool, true, false, List, [], length, slice_index_or, Option, None, Some, refl, sym, ap, subst, ◌∙◌, arith, inl, inr, ⊎_elim, if◌then◌else◌, IsTrue, is_some, IsSome}
use Rattle.std.proofs.lemmas.Bool.{cases_lt, false≢true}
use Rattle.std.proofs.lemmas.List.{ext_get_or}
use Rattle.graphite_api.specs.declared.duration.Duration.{Duration}
use Rattle.graphite_api.specs.Duration.{IsDurationOf}
use mathlib.Core.Path.{fun_ext}
use Rattle.std.specs.Option.{option_flatten}
use Rattle.graphite_text.specs.Graph.{PlainGraph, vertex_is_alive}
use Rattle.graphite_part.specs.declared.piece.Piece.{Piece}
use Rattle.graphite_part.specs.Pieces.{value_at}
use Rattle.graphite_api.specs.declared.kind.Kind.{Kind}
use Rattle.graphite_api.specs.declared.kind.Kind.TheVariants.{Reach, Earliest, Cheapest, Fastest, Latest}
use Rattle.graphite_api.specs.declared.path_query.PathQuery.{PathQuery}
use Rattle.graphite_api.specs.Hop.{Hop}
use Rattle.graphite_api.specs.Journey.{IsAsGood, IsValueWithin}
use Rattle.graphite_api.proofs.BestLemmas.{IsBest-one}
use Rattle.graphite_graph.specs.Ends.{lifespan_count}
use Rattle.graphite_hops.specs.Hops.{hop_at, IsHopOf}
use Rattle.graphite_loop.specs.Journeys.{vertex_value}
use Rattle.graphite_paths.specs.Answer.{IsFirstSettled, AreOnLives}
use Rattle.graphite_paths.specs.Durations.{duration_at, AreDurationsOf}
use Rattle.graphite_report.specs.Given.{AreOfVertices, durations_in, values_in}
use Rattle.graphite_report.specs.Report.{Heading, Values}
use Rattle.graphite_witness.specs.declared.step.Step.{Step}
use Rattle.graphite_witness.specs.Answered.{AreOnce}
use Rattle.graphite_witness.proofs.StepsLemmas.{steps-one}
use Rattle.graphite_words.specs.declared.query.Report.{Report}
use Rattle.graphite_top.specs.declared.told.Whose.{Whose}
use Rattle.graphite_top.specs.Found.{IsFound}
use Rattle.graphite_top.specs.Answer.{Answer, budget_refusal, path_heading, report_answer, report_text}
use Rattle.graphite_top.specs.Journeys.{JourneyAsk, AreTold, IsJourneyAnswer, IsJourneyReport, IsSettled, journeys_text, printed_on}
use Rattle.graphite_top.proofs.SnapLemmas.{same_texts}

-- ---- from the answer to the report

-- nothing is none
no_some : {X : Type 0} (o : Option X) → o ≡ None → IsSome o → ⊥
no_some o none some = false≢true (sym (ap is_some none) ∙ some)

-- a vertex has pieces at the instants of its life alone
pub of_lives : (graph : PlainGraph) (all : List (List (Piece (Option ℕ)))) → AreOnLives (vertex_is_alive graph) (length graph.vertices) all → AreOfVertices graph all
of_lives graph all on = record { len = on.len; alive = λ v t less dead. nothing v t (value_at (values v) t) refl less dead }
  where
    values : ℕ → List (Piece (Option ℕ))
    values v = slice_index_or all v []

    nothing : (v t : ℕ) (o : Option (Option ℕ)) → values_in all v t ≡ o → v < length graph.vertices → vertex_is_alive graph v t ≡ false → values_in all v t ≡ None
    nothing v t None same less dead = same
    nothing v t (Some x) same less dead =
        let alive : IsTrue (vertex_is_alive graph v t) = (on.lives v t less).0 (subst IsSome (sym same) refl) in
        absurd (false≢true (subst IsTrue dead alive))

-- what is printed of a vertex is its value, where it is alive
printed_at : (alive : Bool) (o : Option (Option ℕ)) → (IsSome o → IsTrue alive) → (IsTrue alive → IsSome o) → o ≡ (if alive then Some (option_flatten o) else None)
printed_at true None to from = absurd (false≢true (from refl))
printed_at true (Some value) to from = refl
printed_at false None to from = refl
printed_at false (Some value) to from = absurd (false≢true (to refl))

pub printed : (graph : PlainGraph) (all : List (List (Piece (Option ℕ)))) → AreOnLives (vertex_is_alive graph) (length graph.vertices) all
    → (v : ℕ) → v < 0 + length graph.vertices → values_in all v ≡ printed_on graph (vertex_value all) v
printed graph all on v less =
    let within : v < length graph.vertices = omega (arith, less) in
    fun_ext (λ t. printed_at (vertex_is_alive graph v t) (values_in all v t) (on.lives v t within).0 (on.lives v t within).1)

-- the report of the values that were found, without journeys, is the one that is asked for
pub report_of_path : (ask : JourneyAsk) (all : List (List (Piece (Option ℕ)))) (durations : List (Option Duration)) (made : ℕ) → IsFound ask all durations made → ask.journeys ≡ None
    → IsJourneyAnswer ask (report_answer (report_text ask.report (path_heading ask.word made) ask.graph (values_in all) (durations_in durations)))
report_of_path ask all durations made found none =
    inl (
      found.settled,
      (
        report_text ask.report (path_heading ask.word made) ask.graph (values_in all) (durations_in durations),
        record {
          best = vertex_value all;
          are_best = found.best;
          durations = durations;
          are_durations = found.lasting;
          made = made;
          first = found.first;
          steps = λ v t. [];
          are_told = λ some v t. absurd (no_some ask.journeys none some);
          is = same_texts ask.report (path_heading ask.word made) ask.graph (values_in all) (printed_on ask.graph (vertex_value all)) (durations_in durations) (printed ask.graph all found.on)
              ∙ ap (λ journeys. journeys_text journeys ask.report (path_heading ask.word made) ask.graph (printed_on ask.graph (vertex_value all)) (durations_in durations) (λ v t. [])) (sym none);
        },
        refl,
      ),
    )

-- and so is the refusal, where the values are not settled
pub refusal_of_path : (ask : JourneyAsk) → (IsSettled ask → ⊥) → (lifespan_count ask.graph + 1 ≤ ask.steps → ⊥) → IsJourneyAnswer ask (budget_refusal ask.steps)
refusal_of_path ask unsettled not_more =
    inr (record { unsettled = unsettled; few = ⊎_elim (λ (more : lifespan_count ask.graph < ask.steps). absurd (not_more (omega (arith, more)))) (λ le. le) (cases_lt (lifespan_count ask.graph) ask.steps) }, refl)

-- ---- there is one answer

one_alone : (kind : Kind) (x y : ℕ) → IsAsGood kind x y → IsAsGood kind y x → x ≡ y
one_alone Reach x y h g = omega (arith, h, g)
one_alone Earliest x y h g = omega (arith, h, g)
one_alone Cheapest x y h g = omega (arith, h, g)
one_alone Fastest x y h g = omega (arith, h, g)
one_alone Latest x y h g = omega (arith, h, g)

cases_order : (m n : ℕ) → (m < n) ⊎ ((m ≡ n) ⊎ (n < m))
cases_order m n = ⊎_elim (λ less. inl less) (λ le. ⊎_elim (λ less. inr (inr less)) (λ ge. inr (inl (omega (arith, le, ge)))) (cases_lt n m)) (cases_lt m n)

-- the first number within which the values are settled is one
first_is_one : (alive : ℕ → ℕ → Bool) (IsHop : Hop → Type 0) (query : PathQuery) (steps m n : ℕ) → IsFirstSettled alive IsHop query steps m → IsFirstSettled alive IsHop query steps n → m ≡ n
first_is_one alive IsHop query steps m n first other = by (cases_order m n)
  where
    by : (m < n) ⊎ ((m ≡ n) ⊎ (n < m)) → m ≡ n
    by (inl less) = absurd (other.earlier m first.some less (first.stopped (omega (arith, less, other.within))))
    by (inr (inl same)) = same
    by (inr (inr less)) = absurd (first.earlier n other.some less (other.stopped (omega (arith, less, first.within))))

-- a duration is one, by the values that it is of
duration_is_one : (Best : ℕ → ℕ → Type 0) (a b : Option Duration) → IsDurationOf Best a → IsDurationOf Best b → a ≡ b
duration_is_one Best None None h g = refl
duration_is_one Best None (Some b) h g = absurd (h b.arrive b.start g.has)
duration_is_one Best (Some a) None h g = absurd (g a.arrive a.start h.has)
duration_is_one Best (Some a) (Some b) h g =
    let short : b.start + a.length ≤ b.arrive = h.shortest b.arrive b.start g.has in
    let short' : a.start + b.length ≤ a.arrive = g.shortest a.arrive a.start h.has in
    let length : a.length ≡ b.length = omega (arith, short, short', h.length, g.length) in
    let early : a.arrive ≤ b.arrive = h.first b.arrive b.start g.has (g.length ∙ ap (λ n. b.start + n) (sym length)) in
    let early' : b.arrive ≤ a.arrive = g.first a.arrive a.start h.has (h.length ∙ ap (λ n. a.start + n) length) in
    let arrive : a.arrive ≡ b.arrive = omega (arith, early, early') in
    let start : a.start ≡ b.start = omega (arith, h.length, g.length, length, arrive) in
    λ i. Some (record { length = length i; start = start i; arrive = arrive i })

durations_are_one : (kind : Kind) (n : ℕ) (values : ℕ → ℕ → Option ℕ) (xs ys : List (Option Duration)) → AreDurationsOf kind n values xs → AreDurationsOf kind n values ys → xs ≡ ys
durations_are_one Fastest n values xs ys h g =
    ext_get_or None xs ys (h.0 ∙ sym g.0) (λ v less. duration_is_one (λ t x. values v t ≡ Some x) (duration_at xs v) (duration_at ys v) (h.1 v) (g.1 v))
durations_are_one Reach n values xs ys h g = h ∙ sym g
durations_are_one Earliest n values xs ys h g = h ∙ sym g
durations_are_one Cheapest n values xs ys h g = h ∙ sym g
durations_are_one Latest n values xs ys h g = h ∙ sym g

-- a hop of the graph is told by its edge and its departure
pub once_of : (graph : PlainGraph) → AreOnce (IsHopOf graph)
once_of graph hop other is again edge depart =
    is.is ∙ ap (λ e. hop_at graph e hop.depart) edge ∙ ap (hop_at graph other.edge) depart ∙ sym again.is

told_is_one : (graph : PlainGraph) (query : PathQuery) (v t : ℕ) (value : Option ℕ) (xs ys : List Step) → AreTold graph query v t value xs → AreTold graph query v t value ys → xs ≡ ys
told_is_one graph query v t None xs ys told again = told ∙ sym again
told_is_one graph query v t (Some x) xs ys told again = steps-one (vertex_is_alive graph) (IsHopOf graph) query v t xs ys (once_of graph) told again

-- the text has the journeys that are told alone
same_journeys : (journeys : Option Whose) (report : Report) (heading : Heading) (graph : PlainGraph) (values : ℕ → Values) (durations : ℕ → Option (Option Duration)) (f g : ℕ → ℕ → List Step) → (IsSome journeys → f ≡ g) → journeys_text journeys report heading graph values durations f ≡ journeys_text journeys report heading graph values durations g
same_journeys None report heading graph values durations f g same = refl
same_journeys (Some whose) report heading graph values durations f g same = ap (journeys_text (Some whose) report heading graph values durations) (same refl)

reports_are_one : (ask : JourneyAsk) (text other : List ℕ) → IsJourneyReport ask text → IsJourneyReport ask other → text ≡ other
reports_are_one ask text other a b =
    let alive = vertex_is_alive ask.graph in
    let same_best : a.best ≡ b.best =
    fun_ext (λ v. fun_ext (λ t. IsBest-one (IsAsGood ask.query.kind) (λ x. (k : ℕ) × IsValueWithin alive (IsHopOf ask.graph) ask.query k v t x)
    (a.best v t) (b.best v t) (one_alone ask.query.kind) (a.are_best v t) (b.are_best v t)))
    in
    let same_made : a.made ≡ b.made = first_is_one alive (IsHopOf ask.graph) ask.query ask.steps a.made b.made a.first b.first in
    let same_durations : a.durations ≡ b.durations =
    durations_are_one ask.query.kind (length ask.graph.vertices) b.best a.durations b.durations
    (subst (λ best. AreDurationsOf ask.query.kind (length ask.graph.vertices) best a.durations) same_best a.are_durations) b.are_durations
    in
    let same_steps : IsSome ask.journeys → a.steps ≡ b.steps =
    λ some. fun_ext (λ v. fun_ext (λ t. told_is_one ask.graph ask.query v t (b.best v t) (a.steps v t) (b.steps v t)
    (subst (λ best. AreTold ask.graph ask.query v t (best v t) (a.steps v t)) same_best (a.are_told some v t)) (b.are_told some v t)))
    in
    a.is
    ∙ ap (λ m. journeys_text ask.journeys ask.report (path_heading ask.word m) ask.graph (printed_on ask.graph a.best) (durations_in a.durations) a.steps) same_made
    ∙ ap (λ best. journeys_text ask.journeys ask.report (path_heading ask.word b.made) ask.graph (printed_on ask.graph best) (durations_in a.durations) a.steps) same_best
    ∙ ap (λ durations. journeys_text ask.journeys ask.report (path_heading ask.word b.made) ask.graph (printed_on ask.graph b.best) (durations_in durations) a.steps) same_durations
    ∙ same_journeys ask.journeys ask.report (path_heading ask.word b.made) ask.graph (printed_on ask.graph b.best) (durations_in b.durations) a.steps b.steps same_steps
    ∙ sym b.is

pub journey_answer_is_one : (ask : JourneyAsk) (answer other : Answer) → IsJourneyAnswer ask answer → IsJourneyAnswer ask other → answer ≡ other
journey_answer_is_one ask answer other (inl a) (inl b) = a.1.2 ∙ ap report_answer (reports_are_one ask a.1.0 b.1.0 a.1.1 b.1.1) ∙ sym b.1.2
journey_answer_is_one ask answer other (inl a) (inr b) = absurd (b.0.unsettled a.0)
journey_answer_is_one ask answer other (inr a) (inl b) = absurd (a.0.unsettled b.0)
journey_answer_is_one ask answer other (inr a) (inr b) = a.1 ∙ sym b.1
