-- The entries so far are those of the first vertices.
use Rattle.std.proofs.Common.{◌≡◌, ◌<◌, ℕ, length, option_map, slice_get}
use Rattle.graphite_api.specs.Rules.{idle}
use Rattle.graphite_api.specs.Snapshot.{start_at}
use Rattle.graphite_api.specs.Outcomes.{entry_of}
use Rattle.graphite_api.proofs.instant.starts_at.Given as goal

abbrev pub invariant-loop-v : goal.invariant-loop-v
invariant-loop-v g l = record {
  len : length l.outcomes.items ≡ l.v;
  start : (w : ℕ) → w < l.v → entry_of l.outcomes.items w ≡ option_map idle (start_at l.table.lives (λ u _. slice_get l.start u) l.t w);
}
