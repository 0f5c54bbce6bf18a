-- The interval with the ends of the mirror.
use Rattle.std.proofs.Common.{refl}
use Rattle.graphite_time.proofs.MirrorLemmas.{mirrored_interval-made}
use Rattle.graphite_time.proofs.interval.Interval.mirror.Goals as goal

pub returns-clause-mirror : goal.returns-clause-mirror
returns-clause-mirror c = mirrored_interval-made c.args.h c.args.self _ refl refl
