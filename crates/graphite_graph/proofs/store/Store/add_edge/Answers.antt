use Rattle.std.proofs.Common.{◌∷◌, ◌++◌, [], ◌∙◌, ap, sym, subst, length, length-append, arith, refl}
use Rattle.graphite_graph.specs.Store.{AreEdges, AreAmong}
use Rattle.graphite_graph.proofs.StoreLemmas.{taken, pushed, length-vertices_of, length-edges_of, AreEdges-push, AreEdges-same, AreOwned-more, grown_edges, new_edge}
use Rattle.graphite_graph.proofs.store.Store.add_edge.Goals as goal

pub invariant_of-self-then-added : goal.invariant_of-self-then-added
invariant_of-self-then-added c =
    let names = c.self.inside.edge_names in
    let ends = c.self.inside.edge_ends.items in
    let lives = c.self.inside.edge_lives.items in
    let horizon = c.self.inside.horizon in
    let vertices = length c.self.inside.vertex_names in
    let named = taken _ _ _ _ c.in_ok-added.ensures.names c.if-added.true in
    let ended = pushed _ _ _ _ ends _ c.args.ends c.push.ensures.items c.unwrap.ensures c.reserve.ensures.items refl in
    let lived = pushed _ _ _ _ lives _ (c.args.over ∷ []) c.push-then-added.ensures.items c.unwrap-then-added.ensures c.reserve-2.ensures.items c.in_ok-life.ensures.one in
    let parts = c.self.invariant.2 in
    let count = length-edges_of names ends lives parts.ends_in_step parts.in_step in
    let same = ap (λ graph. length graph.edges) c.self.view_is in
    let far = ap (λ graph. graph.horizon) c.self.view_is in
    let all = sym (sym (length-vertices_of _ _ c.self.invariant.1.in_step) ∙ ap (λ graph. length graph.vertices) c.self.view_is) in
    let grown : AreEdges horizon vertices (names ++ c.args.name.now ∷ []) (ends ++ c.args.ends ∷ []) (lives ++ (c.args.over ∷ []) ∷ []) =
    AreEdges-push horizon vertices names ends lives c.args.name.now c.args.ends c.args.over parts (omega (arith, count, same, c.requires.room)) (subst (λ n. AreAmong n c.args.ends) all c.requires.among) (omega (arith, far, c.requires.in_range)) in (
      c.self.invariant.0,
      c.self.invariant.1,
      AreEdges-same horizon vertices _ _ _ _ _ _ named ended lived grown,
      c.self.invariant.3,
      AreOwned-more (length names) (length c.insert.new.self) _ c.self.invariant.4 (omega (arith, ap length named, length-append names (c.args.name.now ∷ []))),
    )

pub returns-then-added-clause-added : goal.returns-then-added-clause-added
returns-then-added-clause-added c =
    new_edge _ _ _ _ _ _ c.self.invariant.2.ends_in_step c.self.invariant.2.in_step (ap (λ graph. graph.edges) c.self.view_is) c.in_ok-added.ensures.added

pub returns-then-added-clause-graph : goal.returns-then-added-clause-graph
returns-then-added-clause-graph c =
    let named = taken _ _ _ _ c.in_ok-added.ensures.names c.if-added.true in
    let ended = pushed _ _ _ _ c.self.inside.edge_ends.items _ c.args.ends c.push.ensures.items c.unwrap.ensures c.reserve.ensures.items refl in
    let lived = pushed _ _ _ _ c.self.inside.edge_lives.items _ (c.args.over ∷ []) c.push-then-added.ensures.items c.unwrap-then-added.ensures c.reserve-2.ensures.items c.in_ok-life.ensures.one in
    grown_edges c.self.inside.horizon c.self.inside.edge_names c.insert.new.self c.self.inside.edge_ends.items c.push.new.self.items c.self.inside.edge_lives.items c.push-then-added.new.self.items _ c.self.inside.vertex_props c.self.inside.edge_props
    c.args.self.now c.args.name.now c.args.ends c.args.over c.in_ok-added.added
    c.self.invariant.2.ends_in_step c.self.invariant.2.in_step named ended lived c.self.view_is c.if-added.true

pub returns-else-added-clause-added : goal.returns-else-added-clause-added
returns-else-added-clause-added c =
    new_edge _ _ _ _ _ _ c.self.invariant.2.ends_in_step c.self.invariant.2.in_step (ap (λ graph. graph.edges) c.self.view_is) c.in_ok-added.ensures.added
