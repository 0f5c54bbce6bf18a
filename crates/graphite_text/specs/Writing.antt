-- For private functions alone: the text of a property of either kind.
use Rattle.std.specs.Prelude.{ℕ, List, [], ◌∷◌}
use Rattle.std.specs.Fmt.{decimal}
use Rattle.graphite_text.specs.declared.span.Span.{Span}
use Rattle.graphite_text.specs.Canonical.{joined}

-- the text with these fields, the first of which says the kind
abbrev pub property_text : (kind owner key : List ℕ) → Span → ℕ → List ℕ
property_text kind owner key over value =
    joined (kind ∷ owner ∷ key ∷ decimal over.a ∷ decimal over.b ∷ decimal value ∷ [])
