use Rattle.std.proofs.Common.{ap, ◌∙◌, sym, arith}
use Rattle.graphite_part.specs.Counts.{covers_at}
use Rattle.graphite_graph.proofs.FactsLemmas.{AreMadeTo-none, AreMadeTo-more, AreMadeOf-as, covered_facts-asked}
use Rattle.graphite_graph.proofs.facts.made_from.Goals as goal

pub loop-v-init : goal.loop-v-init
loop-v-init g c = record {
  ordered = c.requires.ordered;
  edges = c.requires.edges;
  counts = λ w t h. c.requires.counts w t;
  made = AreMadeTo-none _ c.args.graph.now c.args.ask.now c.in_ok-made.made.items c.in_ok-made.ensures.items;
}

pub made_of_vertex-requires-clause-callable : goal.made_of_vertex-requires-clause-callable
made_of_vertex-requires-clause-callable g c =
    let v = c.loop-v.v in
    let covered = covered_facts-asked c.args.graph.now c.args.ask.now v c.vertex_life-life.result.now c.deref.result.now c.args.numbers.now c.asked_property-property.result.now c.vertex_life-life.ensures.life
    (λ t. ap (λ xs. covers_at xs t) c.deref.ensures.value ∙ c.in_ok-rest.ensures.covers t ∙ c.loop-v.invariant.counts v t (omega arith)) c.requires.numbers c.asked_property-property.ensures.values in
    λ t x is. c.requires.callable v t x (sym (covered t) ∙ is)

pub loop-v-preserved : goal.loop-v-preserved
loop-v-preserved g c =
    let graph = c.args.graph.now in
    let ask = c.args.ask.now in
    let v = c.loop-v.v in
    let made = c.in_ok-made_of_vertex.field-0 in
    let covered = covered_facts-asked graph ask v c.vertex_life-life.result.now c.deref.result.now c.args.numbers.now c.asked_property-property.result.now c.vertex_life-life.ensures.life
    (λ t. ap (λ xs. covers_at xs t) c.deref.ensures.value ∙ c.in_ok-rest.ensures.covers t ∙ c.loop-v.invariant.counts v t (omega arith)) c.requires.numbers c.asked_property-property.ensures.values in
    record {
      ordered = c.in_ok-rest.ensures.ordered;
      edges = c.in_ok-rest.ensures.edges;
      counts = λ w t h. c.in_ok-rest.ensures.others w t (omega arith) ∙ c.loop-v.invariant.counts w t (omega arith);
      made = AreMadeTo-more _ graph ask v c.loop-v.made.items c.push.new.self.items made c.loop-v.invariant.made (AreMadeOf-as _ _ _ made covered c.in_ok-made_of_vertex.ensures) c.in_ok-push.ensures.items;
    }
