use Rattle.std.proofs.Common.{◌≡◌, ◌∷◌, codes, map, string_bytes, take}
use Rattle.graphite_words.proofs.parse.line_of.Given as goal

abbrev pub invariant-loop-word : goal.invariant-loop-word
invariant-loop-word l = map (λ word. word.now) l.line.items ≡ codes "graphite" ∷ map string_bytes (take l.word-index l.words)
