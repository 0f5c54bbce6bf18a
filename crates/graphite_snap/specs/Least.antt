-- The least and the greatest of some numbers.
use Rattle.std.specs.Prelude.{ℕ, min, max, List, [], ◌∷◌, fold, Option, None, Some}

-- the least of the notes, and nothing where there are none
abbrev pub least : List ℕ → Option ℕ
least [] = None
least (note ∷ notes) = Some (fold min note notes)

-- the greatest of the notes, and nothing where there are none
abbrev pub greatest : List ℕ → Option ℕ
greatest [] = None
greatest (note ∷ notes) = Some (fold max note notes)
