use Rattle.std.proofs.Common.{◌∙◌, sym, ap, []}
use Rattle.std.specs.Option.{option_map}
use Rattle.std.proofs.lemmas.Option.{slice_get-get_or}
use Rattle.graphite_graph.proofs.StoreLemmas.{vertex_at}
use Rattle.graphite_graph.proofs.store.Store.vertex_name.Goals as goal

pub name_at-requires : goal.name_at-requires
name_at-requires c = (vertex_at _ _ _ _ c.args.v [] [] c.self.invariant.1 (ap (λ graph. graph.vertices) c.self.view_is) c.requires).named

pub returns : goal.returns
returns c =
    let at = vertex_at _ _ _ _ c.args.v [] [] c.self.invariant.1 (ap (λ graph. graph.vertices) c.self.view_is) c.requires in
    ap (option_map (λ vertex. vertex.name)) at.here ∙ sym (slice_get-get_or _ _ [] at.named) ∙ c.name_at.ensures
