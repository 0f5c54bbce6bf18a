-- The text holds the bytes that were taken so far.
use Rattle.std.proofs.Common.{◌≡◌, ◌≤◌, ◌+◌, ◌-◌, length}
use Rattle.std.specs.Io.KnownBytes.{Consumes}
use Rattle.graphite_base.proofs.reading.gather.Given as goal

abbrev pub invariant-loop-text : goal.invariant-loop-text
invariant-loop-text g l = record {
  within : length l.text.items ≤ l.limit + 1;
  taken : Consumes (g.S.Source.left l.fn.source) (g.S.Source.left l.source) l.text.items;
  faults : g.S.Source.faults l.source ≡ g.S.Source.faults l.fn.source;
}

abbrev pub decreases-loop-text : goal.decreases-loop-text
decreases-loop-text g l = l.limit + 1 - length l.text.items
