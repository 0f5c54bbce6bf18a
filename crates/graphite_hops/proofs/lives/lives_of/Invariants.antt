use Rattle.std.proofs.Common.{◌≡◌, map, take}
use Rattle.graphite_text.specs.Spans.{as_span}
use Rattle.graphite_hops.proofs.lives.lives_of.Given as goal

abbrev pub invariant-loop-v : goal.invariant-loop-v
invariant-loop-v l =
    map (map as_span) l.lives.items ≡ map (λ vertex. vertex.life) (take l.v l.graph.vertices)
