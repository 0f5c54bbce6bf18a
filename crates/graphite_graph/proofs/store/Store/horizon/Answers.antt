use Rattle.std.proofs.Common.{◌∙◌, ap, subst, get_or, []}
use Rattle.std.specs.Option.{option_map_or}
use Rattle.graphite_text.specs.Graph.{is_alive}
use Rattle.graphite_graph.specs.Life.{EndsBy}
use Rattle.graphite_graph.proofs.LifeLemmas.{ended_life}
use Rattle.graphite_graph.proofs.StoreLemmas.{vertex_at}
use Rattle.graphite_graph.proofs.store.Store.horizon.Goals as goal

pub returns-clause-ended : goal.returns-clause-ended
returns-clause-ended c = λ v t within past.
    let life = get_or c.self.inside.vertex_lives.items v [] in
    let at = vertex_at _ _ _ _ v [] [] c.self.invariant.1 (ap (λ graph. graph.vertices) c.self.view_is) within in
    ap (λ o. is_alive (option_map_or (λ vertex. vertex.life) o []) t) at.here
    ∙ ended_life c.args.self.now.horizon t life (subst (λ horizon. EndsBy horizon life) (ap (λ graph. graph.horizon) c.self.view_is) (c.self.invariant.1.are_lives v [] at.living).1) past
