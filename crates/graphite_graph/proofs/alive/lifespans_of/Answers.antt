use Rattle.std.proofs.Common.{◌≡◌, ◌≤◌, length, map, ap, sym, subst, ◌∙◌, arith}
use Rattle.std.proofs.lemmas.List.{take_all}
use Rattle.graphite_time.specs.Life.{IsLife}
use Rattle.graphite_text.specs.Graph.{vertex_life}
use Rattle.graphite_text.specs.Spans.{as_span}
use Rattle.graphite_graph.proofs.AliveLemmas.{alive_among, lifespans_among, alive_more, lifespans_more}
use Rattle.graphite_graph.proofs.alive.lifespans_of.Goals as goal

pub loop-v-preserved : goal.loop-v-preserved
loop-v-preserved c =
    let graph = c.args.graph.now in
    let v = c.loop-v.v in
    let spans = c.spans.result.now in
    let same : map as_span spans ≡ vertex_life graph v = ap (map as_span) c.spans.ensures.spans ∙ c.vertex_life.ensures.life in
    let life : IsLife spans = subst IsLife (sym c.spans.ensures.spans) c.spans.ensures.life in
    record {
      counts = alive_more graph v spans c.loop-v.all.items c.extend_from_slice.new.self.items (omega arith) same life c.in_ok-extend_from_slice.ensures.items c.loop-v.invariant.counts;
      lifespans = lifespans_more graph v _ _ spans (omega arith) same c.in_ok-extend_from_slice.ensures.len c.loop-v.invariant.lifespans;
    }

pub returns-clause-counts : goal.returns-clause-counts
returns-clause-counts c = λ t.
    let all : length c.args.graph.now.vertices ≤ c.loop-v.v = omega arith in
    c.loop-v.invariant.counts t ∙ ap (λ xs. alive_among xs t) (take_all c.loop-v.v c.args.graph.now.vertices all)

pub returns-clause-few : goal.returns-clause-few
returns-clause-few c =
    let all : length c.args.graph.now.vertices ≤ c.loop-v.v = omega arith in
    let whole = take_all c.loop-v.v c.args.graph.now.vertices all in
    omega (arith, c.loop-v.invariant.lifespans, ap lifespans_among whole, c.lifespans.ensures.count, c.lifespans.ensures.in_range)
