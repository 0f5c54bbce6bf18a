use Rattle.std.specs.Prelude.{◌↔◌, IsTrue, IsSome}
use Rattle.std.proofs.Common.{◌≡◌, ℕ, ◌<◌, length}
use Rattle.graphite_part.specs.Pieces.{value_at}
use Rattle.graphite_api.specs.Table.{vertex_is_alive}
use Rattle.graphite_loop.specs.Superstep.{list_at}
use Rattle.graphite_engine_tests.proofs.supersteps.source_first.Given as goal

-- the vertices so far have their states
abbrev pub invariant-loop-v : goal.invariant-loop-v
invariant-loop-v l = record {
  len : length l.init.items ≡ l.v;
  alive : (w t : ℕ) → w < l.v → IsSome (value_at (list_at l.init.items w) t) ↔ IsTrue (vertex_is_alive l.table.lives w t);
}
