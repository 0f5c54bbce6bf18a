-- The edges so far have 32 bits.
use Rattle.std.proofs.Common.{◌<◌, ◌^◌}
use Rattle.std.specs.List.{AllWithin}
use Rattle.graphite_witness.proofs.incoming.see_edges.Given as goal

-- the edges so far were seen
abbrev pub invariant-loop-arc : goal.invariant-loop-arc
invariant-loop-arc l = AllWithin (λ arc. arc.edge < 2 ^ 32) l.arcs 0 l.arc-index
