-- The names that are kept in one of two ways.
use Rattle.std.specs.Prelude.{ℕ, List}
use Rattle.graphite_graph.specs.declared.names.Kept.{Kept}
use Rattle.graphite_graph.specs.declared.names.Kept.TheVariants.{Numbered, Hashed}

-- the names in order
abbrev pub names_of : Kept → List (List ℕ)
names_of (Numbered names) = names
names_of (Hashed names) = names
