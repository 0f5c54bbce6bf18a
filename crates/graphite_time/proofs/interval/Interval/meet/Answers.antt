-- The interval between the later start and the earlier end.
use Rattle.std.proofs.Common.{refl}
use Rattle.graphite_time.specs.Meet.{meet_of}
use Rattle.graphite_time.proofs.interval.Interval.meet.Goals as goal

pub returns-clause-meet : goal.returns-clause-meet
unfolding meet_of
returns-clause-meet c = rw (c.new.ensures.between, c.max.ensures, c.min.ensures) refl
