use Rattle.graphite_graph.proofs.FactsLemmas.{counted-life}
use Rattle.graphite_graph.proofs.made.counted.Goals as goal

pub returns : goal.returns
returns c =
    counted-life c.args.life.now c.args.covers.now c.in_ok-counts.counts c.add_counts.new.self c.in_ok-counts.ensures c.in_ok-add_counts.ensures.ok
