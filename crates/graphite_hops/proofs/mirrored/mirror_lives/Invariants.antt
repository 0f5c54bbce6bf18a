-- The lives so far were mirrored.
use Rattle.std.proofs.Common.{◌≡◌, map, take}
use Rattle.graphite_time.specs.Mirror.{mirrored_life}
use Rattle.graphite_hops.proofs.mirrored.mirror_lives.Given as goal

abbrev pub invariant-loop-v : goal.invariant-loop-v
invariant-loop-v l = l.lives.items ≡ map (mirrored_life l.h) (take l.v l.table.lives)
