use Rattle.std.proofs.Common.{◌≡◌, ◌+◌, All, map, arith, ap, sym, subst, ◌∙◌}
use Rattle.std.proofs.lemmas.List.Elements.{All-tail}
use Rattle.graphite_time.specs.Life.{IsLife}
use Rattle.graphite_part.specs.Counts.{covers_at}
use Rattle.graphite_text.specs.Graph.{edge_life}
use Rattle.graphite_text.specs.Spans.{as_span}
use Rattle.graphite_graph.specs.Departure.{departing, departing_lifespans, GoFrom, HasEdge}
use Rattle.graphite_graph.proofs.DepartureLemmas.{taken, taken_lifespans, departing_other, GoFrom-others, GoFrom-next, GoFrom-none, gone}
use Rattle.graphite_graph.proofs.departure.take_covers.Goals as goal
use Rattle.graphite_graph.proofs.departure.take_covers.Goals.{in-Some+then-departure-v, in_default}

pub loop-departure-preserved : goal.loop-departure-preserved
loop-departure-preserved c =
    let kept = c.loop-departure.invariant in
    let graph = c.args.graph.now in
    let v = c.args.v in
    let departure = c.in-Some.departure.now in
    let others = c.in-Some.others.now in
    let covers = c.loop-departure.covers.items in
    let spans = c.spans.result.now in
    let front = c.in-Some.ensures.cases.0 in
    let from : departure.from ≡ v = omega arith in
    let same : map as_span spans ≡ edge_life graph departure.edge = ap (map as_span) c.spans.ensures.spans ∙ c.edge_life.ensures.life in
    let life : IsLife spans = subst IsLife (sym c.spans.ensures.spans) c.spans.ensures.life in
    record {
      ordered = GoFrom-others v _ departure others kept.ordered front from;
      in_range = All-tail (HasEdge graph) departure others (subst (All (HasEdge graph)) front kept.in_range);
      few = omega (arith, c.in_ok-extend_from_slice.ensures.len, taken_lifespans graph spans departure others same, ap (departing_lifespans graph) front, kept.few);
      covers = λ t. ap (λ xs. covers_at xs t + departing graph others v t) c.in_ok-extend_from_slice.ensures.items ∙ taken graph covers spans departure others v t same life from
          ∙ ap (λ xs. covers_at covers t + departing graph xs v t) (sym front) ∙ kept.covers t;
      others = λ w t h. sym (departing_other graph departure others v w t from h) ∙ ap (λ xs. departing graph xs w t) (sym front) ∙ kept.others w t h;
    }

pub returns-clause-covers : goal.returns-clause-covers
returns-clause-covers c =
    let kept = c.loop-departure.invariant in
    let v = c.args.v in
    let graph = c.args.graph.now in
    let rest = c.loop-departure.rest.now in
    let go : GoFrom (v + 1) rest =
    elim c.match-split_first.branch [
      | in-Some+then-departure-v w ↦ GoFrom-next v rest w.in-Some.departure.now w.in-Some.others.now kept.ordered w.in-Some.ensures.cases.0 (omega arith)
      | in_default w ↦ GoFrom-none (v + 1) rest w.in_default.ensures.cases
    ]
    in
    λ t. omega (arith, kept.covers t, gone graph v rest t go)
