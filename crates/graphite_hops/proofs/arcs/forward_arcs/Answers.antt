use Rattle.std.proofs.Common.{All, sym, subst}
use Rattle.std.proofs.lemmas.List.Elements.{All-nil}
use Rattle.graphite_hops.specs.Arcs.{travel_at, arc_on, IsArcIn}
use Rattle.graphite_hops.proofs.TravelLemmas.{AreRunArcs-none, AreRunArcs-more}
use Rattle.graphite_hops.proofs.arcs.forward_arcs.Goals as goal

pub loop-e-init : goal.loop-e-init
loop-e-init c =
    let empty = c.in_ok-arcs.ensures.items in (
      AreRunArcs-none (travel_at c.args.graph.now) (arc_on c.args.graph.now) c.in_ok-arcs.arcs.items empty,
      subst (All (IsArcIn c.args.graph.now)) (sym empty) (All-nil (IsArcIn c.args.graph.now)),
    )

pub loop-e-preserved : goal.loop-e-preserved
loop-e-preserved c = (
  AreRunArcs-more (travel_at c.args.graph.now) (arc_on c.args.graph.now) c.loop-e.e c.loop-e.arcs.items c.add_edge.new.arcs.items c.loop-e.invariant.0 c.in_ok-add_edge.ensures.arcs,
  c.in_ok-add_edge.ensures.fit c.loop-e.invariant.1,
)
