-- The lifespans so far, from the last one on, were mirrored.
use Rattle.std.proofs.Common.{◌≡◌, length, map, reverse, take}
use Rattle.graphite_time.specs.Mirror.{mirrored_interval}
use Rattle.graphite_time.proofs.life.mirrored_spans.Given as goal

abbrev pub invariant-loop-span : goal.invariant-loop-span
invariant-loop-span l = l.out.items ≡ map (mirrored_interval l.h) (take (length l.yielded) (reverse l.spans))
