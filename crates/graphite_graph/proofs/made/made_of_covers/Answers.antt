use Rattle.std.proofs.Common.{◌∙◌, sym, length}
use Rattle.std.proofs.lemmas.Bool.{eqb-true}
use Rattle.std.proofs.lemmas.Result.{IfOk-weaker}
use Rattle.graphite_graph.proofs.FactsLemmas.{without_covers, AreMadeOf-life}
use Rattle.graphite_graph.proofs.made.made_of_covers.Goals as goal

pub f-requires : goal.f-requires
f-requires g c =
    let none = eqb-true (length c.args.covers.now) 0 (sym c.is_empty.ensures ∙ c.if-is_empty.true) in
    without_covers _ c.args.v c.args.life.now c.args.covers.now c.with.result c.requires.life none c.with.ensures c.requires.callable

pub returns-then-is_empty : goal.returns-then-is_empty
returns-then-is_empty g c =
    let none = eqb-true (length c.args.covers.now) 0 (sym c.is_empty.ensures ∙ c.if-is_empty.true) in
    IfOk-weaker c.on_life.result _ _
    (λ made runs. AreMadeOf-life _ c.args.v c.args.life.now c.args.covers.now c.with.result c.f.result made none c.with.ensures c.f.ensures runs)
    c.on_life.ensures
