use Rattle.std.proofs.Common.{None, rules}
use Rattle.std.proofs.lemmas.Result.{IfOk-weaker}
use Rattle.graphite_graph.specs.Covered.{facts_with}
use Rattle.graphite_graph.proofs.FactsLemmas.{facts-counted, mapped-asked, AreMadeOf-mapped}
use Rattle.graphite_graph.proofs.made.made_of_counts.Goals as goal

pub map-requires : goal.map-requires
map-requires g c =
    mapped-asked _ (λ k. facts_with c.args.v k 0 None) _ c.in_ok-outdegrees.outdegrees (facts-counted c.args.v c.args.life.now c.args.covers.now c.in_ok-outdegrees.outdegrees c.in_ok-outdegrees.ensures) c.requires.callable

pub returns : goal.returns
returns g c =
    let same = facts-counted c.args.v c.args.life.now c.args.covers.now c.in_ok-outdegrees.outdegrees c.in_ok-outdegrees.ensures in
    IfOk-weaker c.map.result _ _
    (λ made answers. AreMadeOf-mapped _ _ (λ k. facts_with c.args.v k 0 None) _ c.in_ok-outdegrees.outdegrees made same (λ k y met. search rules) answers)
    c.map.ensures
