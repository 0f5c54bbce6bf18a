-- An interval is the one between its ends.
use Rattle.graphite_time.proofs.MeetLemmas.{interval_between-made}
use Rattle.graphite_time.proofs.interval.Interval.new.Goals as goal

pub returns-then-b-le-LAST-clause-between : goal.returns-then-b-le-LAST-clause-between
returns-then-b-le-LAST-clause-between c = interval_between-made _
