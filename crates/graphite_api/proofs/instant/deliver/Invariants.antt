-- The arcs so far were gone along.
use Rattle.std.proofs.Common.{◌≡◌, ◌++◌, ℕ, length, map, take}
use Rattle.graphite_api.specs.Snapshot.{link_of}
use Rattle.graphite_api.specs.Supersteps.{notes_to}
use Rattle.graphite_api.specs.Outcomes.{entry_of, list_of}
use Rattle.graphite_api.proofs.instant.deliver.Given as goal

abbrev pub invariant-loop-arc : goal.invariant-loop-arc
invariant-loop-arc g l = record {
  len : length l.groups ≡ length l.initial.groups;
  told : (v : ℕ) → list_of l.groups v ≡ list_of l.initial.groups v ++ notes_to g.P.PointProgram.plan (map link_of (take l.arc-index l.arcs)) (entry_of l.outcomes) v;
}
