-- The durations are told by the best values.
use Rattle.std.proofs.Common.{subst, sym, All}
use Rattle.graphite_text.specs.Graph.{vertex_is_alive}
use Rattle.graphite_hops.specs.Hops.{IsHopOf}
use Rattle.graphite_paths.specs.Durations.{StartInTime}
use Rattle.graphite_paths.proofs.DurationLemmas.{best-in_time}
use Rattle.graphite_paths.proofs.run.run_path.Goals as goal

pub durations_for-requires : goal.durations_for-requires
durations_for-requires c = record {
  in_time = λ fastest.
      subst (All StartInTime) (sym c.deref.ensures.value)
      (best-in_time (vertex_is_alive c.args.graph.now) (IsHopOf c.args.graph.now) c.args.query.now fastest c.in_ok-found.found.values.items c.in_ok-found.ensures.best);
}
