-- The groups so far were sorted.
use Rattle.std.proofs.Common.{◌≡◌, ◌<◌, ◌≤◌, ℕ}
use Rattle.graphite_warp.specs.Sorted.{sorted}
use Rattle.graphite_api.specs.Outcomes.{list_of}
use Rattle.graphite_api.proofs.groups.sort_groups.Given as goal

abbrev pub invariant-loop-group : goal.invariant-loop-group
invariant-loop-group g l = record {
  passed : (v : ℕ) → v < l.group-index → list_of l.groups v ≡ sorted g.M.Ord.cmp (list_of l.initial.groups v);
  others : (v : ℕ) → l.group-index ≤ v → list_of l.groups v ≡ list_of l.initial.groups v;
}
