-- So many supersteps were made, and none of them was the last.
use Rattle.std.proofs.Common.{◌≡◌, ◌+◌, ℕ, length, slice_get}
use Rattle.graphite_api.specs.Snapshot.{snapshot_at}
use Rattle.graphite_api.specs.Supersteps.{after}
use Rattle.graphite_api.specs.Outcomes.{entry_of}
use Rattle.graphite_api.proofs.InstantLemmas.{calls_to, GoesOn}
use Rattle.graphite_api.proofs.plain_run.run_at.Given as goal

abbrev pub invariant-loop-done : goal.invariant-loop-done
invariant-loop-done g l =
    let plan = g.P.PointProgram.plan in
    let order = g.P.State.Ord.cmp in
    let snapshot = snapshot_at l.table.lives l.table.arcs (λ w _. slice_get l.start w) l.t in
    let n = length l.table.lives in
    record {
      len : length l.outcomes.items ≡ n;
      outcomes : (v : ℕ) → entry_of l.outcomes.items v ≡ after plan snapshot l.done v;
      goes_on : GoesOn order plan snapshot n l.done;
      calls : g.P.Program.count l.program ≡ g.P.Program.count l.initial.program + calls_to order plan snapshot n l.done;
    }
