use Rattle.std.proofs.Common.{◌∙◌, ◌&&◌, ap, is_some, nat_lt, nat_le}
use Rattle.graphite_text.specs.Graph.{edge_number}
use Rattle.graphite_graph.proofs.RecordLemmas.{after_form-unplaced, after_form-edge, OnOk-fact, OnOk-Err}
use Rattle.graphite_graph.proofs.reader.Reader.take_edge.Goals as goal
use Rattle.graphite_graph.proofs.reader.Reader.take_edge.Goals.{then-branch, else-branch}

pub returns-in-Err-clause-err : goal.returns-in-Err-clause-err
returns-in-Err-clause-err c =
    let far = c.horizon.ensures.horizon ∙ ap (λ known. known.graph.horizon) c.self.view_is in
    let ordered = c.in-Some.ensures.proper ∙ ap (λ horizon. nat_lt c.args.over.a c.args.over.b && nat_le c.args.over.b horizon) far in
    let taken = c.is_some-taken.ensures ∙ ap is_some (c.find_edge.ensures.number ∙ ap (λ known. edge_number known.graph c.args.name.now) c.self.view_is) in
    after_form-unplaced c.args.self.now c.args.name.now c.args.from.now c.args.to.now c.args.over c.in-Some.over c.is_some-taken.result c.in-Err.rule c.name_rule_or.result
    c.in-Some.ensures.same ordered (c.in-Err.ensures.broken c.args.name.now) taken c.name_rule_or.ensures

pub returns-after-branch-clause-ok : goal.returns-after-branch-clause-ok
returns-after-branch-clause-ok c =
    let far = c.horizon.ensures.horizon ∙ ap (λ known. known.graph.horizon) c.self.view_is in
    let ordered = c.in-Some.ensures.proper ∙ ap (λ horizon. nat_lt c.args.over.a c.args.over.b && nat_le c.args.over.b horizon) far in
    elim c.if-branch.branch [
      | then-branch w ↦
          OnOk-fact c.if-branch.result _
          (after_form-edge c.args.self.now c.self.inside.started c.self.inside.ended c.self.inside.graph c.add_edge.new.self c.args.name.now c.args.from.now c.args.to.now c.args.over c.in-Some.over c.in-Ok.ends c.in_ok-add_edge-in-Ok.field-0
          c.self.view_is c.requires c.in-Some.ensures.same ordered (c.in-Ok.ensures.kept c.args.name.now) c.in-Ok.ensures.from c.in-Ok.ensures.to
          c.in_ok-add_edge-in-Ok.ensures.added c.in_ok-add_edge-in-Ok.ensures.graph w.if-branch.true)
      | else-branch w ↦ OnOk-Err c.if-branch.result _ _ w.result-is
    ]
