use Rattle.graphite_graph.proofs.reading.read_lines.Goals as goal

pub returns-clause-fault : goal.returns-clause-fault
returns-clause-fault c = c.in-Err.ensures.fault
