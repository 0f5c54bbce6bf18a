use Rattle.std.proofs.Common.{◌∙◌, ap, map, subst}
use Rattle.graphite_graph.specs.Numbered.{AreNumbered}
use Rattle.graphite_graph.proofs.NumberedLemmas.{taken_more}
use Rattle.graphite_graph.proofs.numbered.NumberedNames.to_hashed.Goals as goal

pub loop-name-preserved : goal.loop-name-preserved
loop-name-preserved c =
    let numbering = c.self.inside.numbering in
    let all = subst (AreNumbered numbering.prefix.now numbering.first) c.self.view_is c.self.invariant.1 in
    let same = ap (map (λ name. name.now)) c.deref-name-items.ensures.value ∙ c.self.view_is in
    let inserted = c.in_ok-insert.ensures in
    taken_more numbering.prefix.now numbering.first c.deref-name-items.result.now c.loop-name.name-index _ c.args.self.now c.loop-name.hashed c.insert.new.self c.in_ok-insert.field-0 all same c.loop-name-test.true c.loop-name.invariant inserted.added inserted.names
