-- The costs so far have 32 bits.
use Rattle.std.proofs.Common.{◌<◌, ◌^◌}
use Rattle.std.specs.List.{AllWithin}
use Rattle.graphite_api.proofs.table.see_costs.Given as goal

-- the costs so far were seen
abbrev pub invariant-loop-arc : goal.invariant-loop-arc
invariant-loop-arc l = AllWithin (λ arc. arc.cost < 2 ^ 32) l.arcs 0 l.arc-index
