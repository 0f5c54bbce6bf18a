use Rattle.std.proofs.Common.{◌∷◌, ◌++◌, [], ap, length, arith, length-append}
use Rattle.graphite_graph.specs.Store.{AreVertices}
use Rattle.graphite_graph.proofs.StoreLemmas.{taken, pushed, length-vertices_of, AreVertices-push, AreVertices-same, AreEdges-more, AreOwned-more, grown_vertices, new_vertex}
use Rattle.graphite_graph.proofs.store.Store.add_vertex.Goals as goal

pub invariant_of-self-then-added : goal.invariant_of-self-then-added
invariant_of-self-then-added c =
    let names = c.self.inside.vertex_names in
    let lives = c.self.inside.vertex_lives.items in
    let horizon = c.self.inside.horizon in
    let named = taken _ _ _ _ c.in_ok-added.ensures.names c.if-added.true in
    let lived = pushed _ _ _ _ lives _ (c.args.over ∷ []) c.push.ensures.items c.unwrap.ensures c.reserve.ensures.items c.in_ok-life.ensures.one in
    let parts = c.self.invariant.1 in
    let count = length-vertices_of names lives parts.in_step in
    let same = ap (λ graph. length graph.vertices) c.self.view_is in
    let far = ap (λ graph. graph.horizon) c.self.view_is in
    let grown : AreVertices horizon (names ++ c.args.name.now ∷ []) (lives ++ (c.args.over ∷ []) ∷ []) =
    AreVertices-push horizon names lives c.args.name.now c.args.over parts (omega (arith, count, same, c.requires.room)) (omega (arith, far, c.requires.in_range)) in (
      c.self.invariant.0,
      AreVertices-same horizon _ _ _ _ named lived grown,
      AreEdges-more horizon (length names) (length c.insert.new.self) _ _ _ c.self.invariant.2 (omega (arith, ap length named, length-append names (c.args.name.now ∷ []))),
      AreOwned-more (length names) (length c.insert.new.self) _ c.self.invariant.3 (omega (arith, ap length named, length-append names (c.args.name.now ∷ []))),
      c.self.invariant.4,
    )

pub returns-then-added-clause-added : goal.returns-then-added-clause-added
returns-then-added-clause-added c =
    new_vertex _ _ _ _ _ c.self.invariant.1.in_step (ap (λ graph. graph.vertices) c.self.view_is) c.in_ok-added.ensures.added

pub returns-then-added-clause-graph : goal.returns-then-added-clause-graph
returns-then-added-clause-graph c =
    let named = taken _ _ _ _ c.in_ok-added.ensures.names c.if-added.true in
    let lived = pushed _ _ _ _ c.self.inside.vertex_lives.items _ (c.args.over ∷ []) c.push.ensures.items c.unwrap.ensures c.reserve.ensures.items c.in_ok-life.ensures.one in
    grown_vertices c.self.inside.horizon c.self.inside.vertex_names c.insert.new.self c.self.inside.vertex_lives.items c.push.new.self.items _ c.self.inside.vertex_props c.self.inside.edge_props c.args.self.now c.args.name.now c.args.over c.in_ok-added.added
    c.self.invariant.1.in_step named lived c.self.view_is c.if-added.true

pub returns-else-added-clause-added : goal.returns-else-added-clause-added
returns-else-added-clause-added c =
    new_vertex _ _ _ _ _ c.self.invariant.1.in_step (ap (λ graph. graph.vertices) c.self.view_is) c.in_ok-added.ensures.added
