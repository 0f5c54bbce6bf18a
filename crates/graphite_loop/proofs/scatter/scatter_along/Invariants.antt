-- The pieces so far were told along the arc.
use Rattle.std.proofs.Common.{◌≡◌, ◌++◌, take}
use Rattle.graphite_loop.specs.Deliveries.{deliveries_along}
use Rattle.graphite_loop.proofs.scatter.scatter_along.Given as goal

-- the pieces so far were told
abbrev pub invariant-loop-piece : goal.invariant-loop-piece
invariant-loop-piece g l =
    l.out.items ≡ l.initial.out.items ++ deliveries_along g.P.Program.rules (take l.piece-index l.sent) l.arc
