-- What it is for a comparison to tell values apart.
use Rattle.std.specs.Prelude.{◌≡◌}
use Rattle.std.specs.declared.cmp.Ordering.{Ordering}
use Rattle.std.specs.declared.cmp.Ordering.TheVariants.{Equal}

-- equal only for identical values
abbrev pub IsExact : {X : Type 0} → (X → X → Ordering) → Type 0
IsExact {X} cmp = (x y : X) → cmp x y ≡ Equal → x ≡ y
