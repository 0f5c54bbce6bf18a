-- Between two starts stand the arcs out of one vertex.
use Rattle.graphite_api.proofs.TableLemmas.{arcs_out-between}
use Rattle.graphite_api.proofs.table.arcs_between.Goals as goal

pub returns : goal.returns
returns c = arcs_out-between c.args.arcs.now c.args.v c.args.start c.args.«end» c.requires.start c.requires.«end»
