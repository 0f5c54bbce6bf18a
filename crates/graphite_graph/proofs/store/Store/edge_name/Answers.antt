use Rattle.std.proofs.Common.{◌∙◌, sym, ap, []}
use Rattle.std.specs.Option.{option_map}
use Rattle.std.proofs.lemmas.Option.{slice_get-get_or}
use Rattle.graphite_graph.proofs.StoreLemmas.{edge_at}
use Rattle.graphite_graph.proofs.store.Store.edge_name.Goals as goal

pub name_at-requires : goal.name_at-requires
name_at-requires c = (edge_at _ _ _ _ _ _ c.args.e [] (record { from = 0; to = 0 }) [] c.self.invariant.2 (ap (λ graph. graph.edges) c.self.view_is) c.requires).named

pub returns : goal.returns
returns c =
    let at = edge_at _ _ _ _ _ _ c.args.e [] (record { from = 0; to = 0 }) [] c.self.invariant.2 (ap (λ graph. graph.edges) c.self.view_is) c.requires in
    ap (option_map (λ edge. edge.name)) at.here ∙ sym (slice_get-get_or _ _ [] at.named) ∙ c.name_at.ensures
