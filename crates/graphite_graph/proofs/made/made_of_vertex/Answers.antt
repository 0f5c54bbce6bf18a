use Rattle.std.proofs.Common.{[], ◌≡◌, ◌∙◌, ap, sym, length}
use Rattle.std.proofs.lemmas.Bool.{eqb-true}
use Rattle.std.proofs.lemmas.List.{nil_from_length}
use Rattle.std.proofs.lemmas.Result.{IfOk-weaker}
use Rattle.graphite_graph.specs.Covered.{covered_facts}
use Rattle.graphite_graph.proofs.FactsLemmas.{AreMadeOf-as}
use Rattle.graphite_graph.proofs.made.made_of_vertex.Goals as goal

pub made_without_property-requires-clause-callable : goal.made_without_property-requires-clause-callable
made_without_property-requires-clause-callable g c =
    let none : c.args.property.now ≡ [] = nil_from_length c.args.property.now (eqb-true (length c.args.property.now) 0 (sym c.is_empty.ensures ∙ c.if-is_empty.true)) in
    λ t x is. c.requires.callable t x (ap (λ xs. covered_facts c.args.v c.args.life.now c.args.covers.now c.args.numbers.now xs t) none ∙ is)

pub returns-then-is_empty : goal.returns-then-is_empty
returns-then-is_empty g c =
    let none : c.args.property.now ≡ [] = nil_from_length c.args.property.now (eqb-true (length c.args.property.now) 0 (sym c.is_empty.ensures ∙ c.if-is_empty.true)) in
    IfOk-weaker c.made_without_property.result _ _
    (λ made is. AreMadeOf-as _ _ _ made (λ t. ap (λ xs. covered_facts c.args.v c.args.life.now c.args.covers.now c.args.numbers.now xs t) (sym none)) is)
    c.made_without_property.ensures
