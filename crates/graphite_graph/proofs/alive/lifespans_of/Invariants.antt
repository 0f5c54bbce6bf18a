use Rattle.std.proofs.Common.{◌≡◌, ℕ, take, vec_len}
use Rattle.graphite_part.specs.Counts.{covers_at}
use Rattle.graphite_graph.proofs.AliveLemmas.{alive_among, lifespans_among}
use Rattle.graphite_graph.proofs.alive.lifespans_of.Given as goal

abbrev pub invariant-loop-v : goal.invariant-loop-v
invariant-loop-v l = record {
  counts : (t : ℕ) → covers_at l.all.items t ≡ alive_among (take l.v l.graph.vertices) t;
  lifespans : vec_len l.all ≡ lifespans_among (take l.v l.graph.vertices);
}
