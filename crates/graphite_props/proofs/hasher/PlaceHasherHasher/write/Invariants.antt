use Rattle.std.proofs.Common.{◌≡◌, fold, take}
use Rattle.graphite_props.specs.Hasher.{read_in}
use Rattle.graphite_props.proofs.hasher.PlaceHasherHasher.write.Given as goal

abbrev pub invariant-loop-byte : goal.invariant-loop-byte
invariant-loop-byte l = l.last ≡ fold read_in l.fn.self.bytes (take l.byte-index l.bytes)
