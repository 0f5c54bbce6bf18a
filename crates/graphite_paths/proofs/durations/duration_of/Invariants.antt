-- The duration by the pieces so far.
use Rattle.std.proofs.Common.{◌≡◌, Some, take}
use Rattle.graphite_part.specs.Pieces.{value_at}
use Rattle.graphite_api.specs.Duration.{IsDurationOf}
use Rattle.graphite_paths.proofs.durations.duration_of.Given as goal

abbrev pub invariant-loop-piece : goal.invariant-loop-piece
invariant-loop-piece l = IsDurationOf (λ t x. value_at (take l.piece-index l.values) t ≡ Some (Some x)) l.shortest
