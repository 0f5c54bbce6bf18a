use Rattle.std.proofs.Common.{◌∙◌, sym, ap, subst, [], map, arith}
use Rattle.std.specs.Option.{option_map_or}
use Rattle.graphite_text.specs.Spans.{as_span}
use Rattle.graphite_graph.specs.Life.{EndsBy}
use Rattle.graphite_graph.specs.Store.{IsLifeBy}
use Rattle.graphite_graph.proofs.StoreLemmas.{vertex_at}
use Rattle.graphite_graph.proofs.store.Store.vertex_life.Goals as goal

pub index-requires : goal.index-requires
index-requires c =
    let at = vertex_at _ _ _ _ c.args.v [] [] c.self.invariant.1 (ap (λ graph. graph.vertices) c.self.view_is) c.requires in
    omega (arith, at.living, c.self.inside.vertex_lives.ok.0)

pub returns-clause-life : goal.returns-clause-life
returns-clause-life c =
    let at = vertex_at _ _ _ _ c.args.v [] c.index.result.now c.self.invariant.1 (ap (λ graph. graph.vertices) c.self.view_is) c.requires in
    ap (map as_span) c.index.ensures ∙ sym (ap (λ o. option_map_or (λ vertex. vertex.life) o []) at.here)

pub returns-clause-gaps : goal.returns-clause-gaps
returns-clause-gaps c =
    let at = vertex_at _ _ _ _ c.args.v [] c.index.result.now c.self.invariant.1 (ap (λ graph. graph.vertices) c.self.view_is) c.requires in
    (subst (IsLifeBy _) (sym c.index.ensures) (c.self.invariant.1.are_lives c.args.v c.index.result.now at.living)).0

pub returns-clause-in_range : goal.returns-clause-in_range
returns-clause-in_range c =
    let at = vertex_at _ _ _ _ c.args.v [] c.index.result.now c.self.invariant.1 (ap (λ graph. graph.vertices) c.self.view_is) c.requires in
    subst (λ horizon. EndsBy horizon c.index.result.now) (ap (λ graph. graph.horizon) c.self.view_is)
    (subst (IsLifeBy _) (sym c.index.ensures) (c.self.invariant.1.are_lives c.args.v c.index.result.now at.living)).1
