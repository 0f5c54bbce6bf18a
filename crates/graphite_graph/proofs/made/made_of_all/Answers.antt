use Rattle.std.proofs.Common.{rules, subst}
use Rattle.std.proofs.lemmas.Result.{IfOk-weaker}
use Rattle.graphite_part.specs.Pieces.{value_at, AreRuns}
use Rattle.graphite_props.specs.Beside.{beside}
use Rattle.graphite_graph.proofs.FactsLemmas.{facts_of_row, facts-valued, mapped-asked, AreMadeOf-mapped}
use Rattle.graphite_graph.proofs.made.made_of_all.Goals as goal

pub map-requires : goal.map-requires
map-requires g c =
    let counts = c.in_ok-outdegrees.outdegrees in
    let both = c.in_ok-both.both in
    let all = c.in_ok-all.all in
    let pairs = subst (λ xs. AreRuns (beside (value_at xs) (value_at c.args.numbers.now)) both) c.pieces.ensures.pieces c.in_ok-both.ensures in
    let rows = subst (λ xs. AreRuns (beside (value_at xs) (value_at c.args.property.now)) all) c.pieces-2.ensures.pieces c.in_ok-all.ensures in
    let same = facts-valued c.args.v c.args.life.now c.args.covers.now counts c.args.numbers.now c.args.property.now both all c.in_ok-outdegrees.ensures pairs rows in
    mapped-asked _ (facts_of_row c.args.v) _ all same c.requires.callable

pub returns : goal.returns
returns g c =
    let counts = c.in_ok-outdegrees.outdegrees in
    let both = c.in_ok-both.both in
    let all = c.in_ok-all.all in
    let pairs = subst (λ xs. AreRuns (beside (value_at xs) (value_at c.args.numbers.now)) both) c.pieces.ensures.pieces c.in_ok-both.ensures in
    let rows = subst (λ xs. AreRuns (beside (value_at xs) (value_at c.args.property.now)) all) c.pieces-2.ensures.pieces c.in_ok-all.ensures in
    let same = facts-valued c.args.v c.args.life.now c.args.covers.now counts c.args.numbers.now c.args.property.now both all c.in_ok-outdegrees.ensures pairs rows in
    IfOk-weaker c.map.result _ _
    (λ made answers. AreMadeOf-mapped _ _ (facts_of_row c.args.v) _ all made same (λ row y met. search rules) answers)
    c.map.ensures
