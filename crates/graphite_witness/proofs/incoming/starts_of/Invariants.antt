-- The starts so far are those of the first vertices.
use Rattle.std.proofs.Common.{◌≡◌, ◌≤◌, ◌<◌, ℕ, length, slice_index}
use Rattle.std.specs.List.{AllWithin}
use Rattle.graphite_witness.specs.ByTarget.{IsEntry}
use Rattle.graphite_witness.proofs.incoming.starts_of.Given as goal

abbrev pub invariant-loop-v : goal.invariant-loop-v
invariant-loop-v l = record {
  within : l.start ≤ length l.arcs;
  passed : AllWithin (λ arc. arc.to < l.v) l.arcs 0 l.start;
  len : length l.starts.items ≡ l.v;
  starts : (w : ℕ) → w < l.v → IsEntry l.arcs w (slice_index l.starts.items w);
}
