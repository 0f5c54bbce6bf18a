-- The arcs so far were gone along.
use Rattle.std.proofs.Common.{◌≡◌, ◌++◌, take}
use Rattle.std.specs.List.{flat_map}
use Rattle.graphite_loop.specs.Deliveries.{deliveries_along}
use Rattle.graphite_loop.proofs.scatter.scatter.Given as goal

-- the arcs so far were taken
abbrev pub invariant-loop-arc : goal.invariant-loop-arc
invariant-loop-arc g l =
    l.out.items ≡ l.initial.out.items ++ flat_map (λ arc. deliveries_along g.P.Program.rules l.sent arc) (take l.arc-index l.arcs)
