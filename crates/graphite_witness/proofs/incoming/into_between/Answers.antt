-- Between two entries stand the arcs into one vertex.
use Rattle.graphite_witness.proofs.IncomingLemmas.{arcs_into-between, into-by_edge}
use Rattle.graphite_witness.proofs.incoming.into_between.Goals as goal

pub returns-clause-arcs : goal.returns-clause-arcs
returns-clause-arcs c = arcs_into-between c.args.arcs.now c.args.v c.args.start c.args.«end» c.requires.start c.requires.«end»

pub returns-clause-by_edge : goal.returns-clause-by_edge
returns-clause-by_edge c = into-by_edge c.args.arcs.now c.args.v c.args.start c.args.«end» c.requires.start c.requires.«end» c.requires.by_target
