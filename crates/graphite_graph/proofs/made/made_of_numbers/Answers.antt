use Rattle.std.proofs.Common.{rules, subst}
use Rattle.std.proofs.lemmas.Result.{IfOk-weaker}
use Rattle.graphite_part.specs.Pieces.{value_at, AreRuns}
use Rattle.graphite_props.specs.Beside.{beside}
use Rattle.graphite_graph.proofs.FactsLemmas.{facts_of_pair, facts-numbered, mapped-asked, AreMadeOf-mapped}
use Rattle.graphite_graph.proofs.made.made_of_numbers.Goals as goal

pub map-requires : goal.map-requires
map-requires g c =
    let counts = c.in_ok-outdegrees.outdegrees in
    let both = c.in_ok-both.both in
    let pairs = subst (λ xs. AreRuns (beside (value_at xs) (value_at c.args.numbers.now)) both) c.pieces.ensures.pieces c.in_ok-both.ensures in
    let same = facts-numbered c.args.v c.args.life.now c.args.covers.now counts c.args.numbers.now both c.in_ok-outdegrees.ensures pairs in
    mapped-asked _ (facts_of_pair c.args.v) _ both same c.requires.callable

pub returns : goal.returns
returns g c =
    let counts = c.in_ok-outdegrees.outdegrees in
    let both = c.in_ok-both.both in
    let pairs = subst (λ xs. AreRuns (beside (value_at xs) (value_at c.args.numbers.now)) both) c.pieces.ensures.pieces c.in_ok-both.ensures in
    let same = facts-numbered c.args.v c.args.life.now c.args.covers.now counts c.args.numbers.now both c.in_ok-outdegrees.ensures pairs in
    IfOk-weaker c.map.result _ _
    (λ made answers. AreMadeOf-mapped _ _ (facts_of_pair c.args.v) _ both made same (λ pair y met. search rules) answers)
    c.map.ensures
