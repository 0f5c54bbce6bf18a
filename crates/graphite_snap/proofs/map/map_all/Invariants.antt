use Rattle.std.proofs.Common.{◌≡◌, ◌<◌, ℕ, length, slice_index_or, [], ◌+◌, drop}
use Rattle.std.specs.Vec.Iter.{into_iter_items, into_iter_len}
use Rattle.graphite_part.specs.Calls.{AreAnswers}
use Rattle.graphite_snap.proofs.map.map_all.Given as goal

-- as many are mapped as were taken, and what is left are the others
abbrev pub invariant-loop-partition : goal.invariant-loop-partition
invariant-loop-partition g l = record {
  rest : into_iter_items l.partition-iterator ≡ drop (length l.new.items) l.fn.old.items;
  count : into_iter_len l.partition-iterator + length l.new.items ≡ length l.fn.old.items;
  answers : (v : ℕ) → v < length l.new.items → AreAnswers (goal.F-post g l.f) (slice_index_or l.fn.old.items v []) (slice_index_or l.new.items v []);
}
