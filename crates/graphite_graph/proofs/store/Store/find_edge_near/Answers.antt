use Rattle.std.proofs.Common.{◌∙◌, ◌<◌, sym, ap, subst, length, position, IfSome}
use Rattle.std.specs.Str.{bytes_eq}
use Rattle.graphite_text.specs.Graph.{edge_number}
use Rattle.graphite_graph.proofs.StoreLemmas.{names-edges_of, length-edges_of}
use Rattle.graphite_graph.proofs.store.Store.find_edge_near.Goals as goal

pub returns-clause-number : goal.returns-clause-number
returns-clause-number c =
    c.number_near.ensures.number
    ∙ ap (position (bytes_eq c.args.name.now)) (sym (names-edges_of _ _ _ c.self.invariant.2.ends_in_step c.self.invariant.2.in_step))
    ∙ ap (λ graph. edge_number graph c.args.name.now) c.self.view_is

pub returns-clause-in_range : goal.returns-clause-in_range
returns-clause-in_range c =
    let count = sym (length-edges_of _ _ _ c.self.invariant.2.ends_in_step c.self.invariant.2.in_step) ∙ ap (λ graph. length graph.edges) c.self.view_is in
    subst (λ n. IfSome c.number_near.result (λ e. e < n)) count c.number_near.ensures.within
