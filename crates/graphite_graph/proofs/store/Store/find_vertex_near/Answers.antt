use Rattle.std.proofs.Common.{◌∙◌, ◌<◌, sym, ap, subst, length, position, IfSome}
use Rattle.std.specs.Str.{bytes_eq}
use Rattle.graphite_text.specs.Graph.{vertex_number}
use Rattle.graphite_graph.proofs.StoreLemmas.{names-vertices_of, length-vertices_of}
use Rattle.graphite_graph.proofs.store.Store.find_vertex_near.Goals as goal

pub returns-clause-number : goal.returns-clause-number
returns-clause-number c =
    c.number_near.ensures.number
    ∙ ap (position (bytes_eq c.args.name.now)) (sym (names-vertices_of _ _ c.self.invariant.1.in_step))
    ∙ ap (λ graph. vertex_number graph c.args.name.now) c.self.view_is

pub returns-clause-in_range : goal.returns-clause-in_range
returns-clause-in_range c =
    let count = sym (length-vertices_of _ _ c.self.invariant.1.in_step) ∙ ap (λ graph. length graph.vertices) c.self.view_is in
    subst (λ n. IfSome c.number_near.result (λ v. v < n)) count c.number_near.ensures.within
