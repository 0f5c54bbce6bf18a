-- Without deliveries every inbox is empty.
use Rattle.graphite_loop.proofs.RunLemmas.{IsStart-new}
use Rattle.graphite_loop.proofs.run.Run.start.Goals as goal

pub returns-clause-start : goal.returns-clause-start
returns-clause-start g c = IsStart-new c.args.init.items c.new.result.items c.new.ensures.items
