-- For private functions and proofs alone: which instants are asked for, told from their notes.
use Rattle.std.specs.Prelude.{Bool, true, false, List, [], ◌∷◌}
use Rattle.graphite_warp.specs.declared.touch.Touch.{Touch}
use Rattle.graphite_warp.specs.declared.touch.Touch.TheVariants.{All, Touched}

-- whether an instant with these notes is one of those that are asked for
abbrev pub asks_for : {M : Type 0} → Touch → List M → Bool
asks_for All notes = true
asks_for Touched [] = false
asks_for Touched (note ∷ notes) = true
