use Rattle.std.proofs.Common.{All, sym, subst}
use Rattle.std.proofs.lemmas.List.Elements.{All-nil}
use Rattle.graphite_api.specs.Table.{IsArcOn}
use Rattle.graphite_hops.specs.Hops.{hop_values, hop_arc_on}
use Rattle.graphite_hops.proofs.TravelLemmas.{AreRunArcs-none, AreRunArcs-more}
use Rattle.graphite_hops.proofs.hops.hop_arcs.Goals as goal

pub loop-e-init : goal.loop-e-init
loop-e-init c =
    let graph = c.args.graph.now in
    let lives = c.args.lives.now in
    let empty = c.in_ok-arcs.ensures.items in (
      AreRunArcs-none (hop_values graph lives) (hop_arc_on graph) c.in_ok-arcs.arcs.items empty,
      subst (All (IsArcOn lives)) (sym empty) (All-nil (IsArcOn lives)),
    )

pub loop-e-preserved : goal.loop-e-preserved
loop-e-preserved c =
    let graph = c.args.graph.now in
    let lives = c.args.lives.now in (
      AreRunArcs-more (hop_values graph lives) (hop_arc_on graph) c.loop-e.e c.loop-e.arcs.items c.add_edge.new.arcs.items c.loop-e.invariant.0 c.in_ok-add_edge.ensures.arcs,
      c.in_ok-add_edge.ensures.fit c.loop-e.invariant.1,
    )
