use Rattle.std.proofs.Common.{◌∙◌, sym, ap, [], length, arith, Some}
use Rattle.std.specs.Option.{option_map}
use Rattle.graphite_graph.proofs.StoreLemmas.{edge_at, ends_among, length-vertices_of}
use Rattle.graphite_graph.proofs.store.Store.ends.Goals as goal

pub index-requires : goal.index-requires
index-requires c =
    let at = edge_at _ _ _ _ _ _ c.args.e [] (record { from = 0; to = 0 }) [] c.self.invariant.2 (ap (λ graph. graph.edges) c.self.view_is) c.requires in
    omega (arith, at.ended, c.self.inside.edge_ends.ok.0)

pub returns-clause-ends : goal.returns-clause-ends
returns-clause-ends c =
    let at = edge_at _ _ _ _ _ _ c.args.e [] c.index.result.now [] c.self.invariant.2 (ap (λ graph. graph.edges) c.self.view_is) c.requires in
    ap (option_map (λ edge. record { from = edge.from; to = edge.to })) at.here ∙ ap Some (sym c.index.ensures)

pub returns-clause-from_in_range : goal.returns-clause-from_in_range
returns-clause-from_in_range c =
    let at = edge_at _ _ _ _ _ _ c.args.e [] c.index.result.now [] c.self.invariant.2 (ap (λ graph. graph.edges) c.self.view_is) c.requires in
    let count = sym (length-vertices_of _ _ c.self.invariant.1.in_step) ∙ ap (λ graph. length graph.vertices) c.self.view_is in
    (ends_among _ _ _ _ _ _ c.args.e c.index.result.now c.self.invariant.2 count at.ended c.index.ensures).0

pub returns-clause-to_in_range : goal.returns-clause-to_in_range
returns-clause-to_in_range c =
    let at = edge_at _ _ _ _ _ _ c.args.e [] c.index.result.now [] c.self.invariant.2 (ap (λ graph. graph.edges) c.self.view_is) c.requires in
    let count = sym (length-vertices_of _ _ c.self.invariant.1.in_step) ∙ ap (λ graph. length graph.vertices) c.self.view_is in
    (ends_among _ _ _ _ _ _ c.args.e c.index.result.now c.self.invariant.2 count at.ended c.index.ensures).1
