use Rattle.std.proofs.Common.{◌≡◌, take}
use Rattle.graphite_graph.proofs.numbered.NumberedNames.to_hashed.Given as goal

abbrev pub invariant-loop-name : goal.invariant-loop-name
invariant-loop-name l = l.hashed ≡ take l.name-index l.self
