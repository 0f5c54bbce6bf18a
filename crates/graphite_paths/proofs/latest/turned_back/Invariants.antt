use Rattle.std.proofs.Common.{◌≡◌, ◌<◌, ℕ, length}
use Rattle.graphite_part.specs.Pieces.{AreRuns}
use Rattle.graphite_loop.specs.Superstep.{list_at}
use Rattle.graphite_paths.specs.Turned.{turned}
use Rattle.graphite_paths.proofs.latest.turned_back.Given as goal

-- the vertices so far are turned back
abbrev pub invariant-loop-pieces : goal.invariant-loop-pieces
invariant-loop-pieces l = record {
  len : length l.turned.items ≡ l.pieces-index;
  runs : (v : ℕ) → v < l.pieces-index → AreRuns (turned l.h (list_at l.values v)) (list_at l.turned.items v);
}
