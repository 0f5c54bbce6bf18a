-- The arcs passed so far have targets below the vertex.
use Rattle.std.proofs.Common.{◌≤◌, ◌<◌, ◌-◌, length}
use Rattle.std.specs.List.{AllWithin}
use Rattle.graphite_witness.proofs.incoming.next_start.Given as goal

abbrev pub invariant-loop-place : goal.invariant-loop-place
invariant-loop-place l = record {
  within : l.place ≤ length l.arcs;
  passed : AllWithin (λ arc. arc.to < l.v) l.arcs 0 l.place;
}

abbrev pub decreases-loop-place : goal.decreases-loop-place
decreases-loop-place l = length l.arcs - l.place
