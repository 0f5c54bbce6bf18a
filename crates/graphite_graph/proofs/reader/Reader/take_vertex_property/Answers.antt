use Rattle.std.proofs.Common.{◌∙◌, ◌&&◌, ap, nat_lt, nat_le}
use Rattle.graphite_graph.proofs.PropertyLemmas.{vertex_property-unowned, after_form-vertex_property, vertex_property-refused}
use Rattle.graphite_graph.proofs.reader.Reader.take_vertex_property.Goals as goal

pub returns-in-Ok-clause-ok : goal.returns-in-Ok-clause-ok
returns-in-Ok-clause-ok c =
    let far = c.horizon.ensures.horizon ∙ ap (λ known. known.graph.horizon) c.self.view_is in
    let ordered = c.in-Some.ensures.proper ∙ ap (λ horizon. nat_lt c.args.over.a c.args.over.b && nat_le c.args.over.b horizon) far in
    after_form-vertex_property c.add_vertex_property.result c.args.self.now c.add_vertex_property.new.self c.args.owner.now c.args.key.now c.args.over c.args.value c.in-Ok.v c.in-Some.over
    c.in-Some.ensures.same ordered c.requires c.in-Ok.ensures.number c.in-Ok.ensures.kept c.add_vertex_property.ensures.kept c.add_vertex_property.ensures.ok

pub returns-in-Ok-clause-err : goal.returns-in-Ok-clause-err
returns-in-Ok-clause-err c =
    let far = c.horizon.ensures.horizon ∙ ap (λ known. known.graph.horizon) c.self.view_is in
    let ordered = c.in-Some.ensures.proper ∙ ap (λ horizon. nat_lt c.args.over.a c.args.over.b && nat_le c.args.over.b horizon) far in
    vertex_property-refused c.add_vertex_property.result c.args.self.now c.args.owner.now c.args.key.now c.args.over c.args.value c.in-Ok.v c.in-Some.over
    c.in-Some.ensures.same ordered c.in-Ok.ensures.number c.in-Ok.ensures.kept c.add_vertex_property.ensures.err

pub returns-in-Err-clause-err : goal.returns-in-Err-clause-err
returns-in-Err-clause-err c =
    let far = c.horizon.ensures.horizon ∙ ap (λ known. known.graph.horizon) c.self.view_is in
    let ordered = c.in-Some.ensures.proper ∙ ap (λ horizon. nat_lt c.args.over.a c.args.over.b && nat_le c.args.over.b horizon) far in
    vertex_property-unowned c.args.self.now c.args.owner.now c.args.key.now c.args.over c.args.value c.in-Err.rule c.in-Some.over c.in-Some.ensures.same ordered c.in-Err.ensures.broken
