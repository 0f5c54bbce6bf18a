use Rattle.graphite_gen.proofs.AcceptedLemmas.{made_is_accepted, made_is_short}
use Rattle.graphite_gen.proofs.made.made_text.Goals as goal

pub returns-clause-accepted : goal.returns-clause-accepted
returns-clause-accepted c = made_is_accepted (record { seed = c.args.seed; vertices = c.args.v; edges = c.args.e; horizon = c.args.h }) c.requires

pub returns-clause-short : goal.returns-clause-short
returns-clause-short c = made_is_short (record { seed = c.args.seed; vertices = c.args.v; edges = c.args.e; horizon = c.args.h }) c.requires
