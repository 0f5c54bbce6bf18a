-- Searches in lists.
use Rattle.std.proofs.Common.{◌≡◌, refl, ap, ◌∙◌, ℕ, ◌+◌, Bool, true, false, cond, ◌||◌, List, [], ◌∷◌, Option, Some, is_some}
use Rattle.std.specs.List.{list_any, position, position_from}
use Rattle.std.proofs.lemmas.Iterator.Adapters.{position_from-zero}

some_or_rest : (i : ℕ) (rest : Option ℕ) (b rest_any : Bool) → is_some rest ≡ rest_any → is_some (cond b (Some i) rest) ≡ (b || rest_any)
some_or_rest i rest true rest_any e = refl
some_or_rest i rest false rest_any e = e

is_some-position_from : {X : Type 0} (p : X → Bool) (i : ℕ) (xs : List X) → is_some (position_from p i xs) ≡ list_any p xs
is_some-position_from p i [] = refl
is_some-position_from p i (x ∷ xs) = some_or_rest i (position_from p (i + 1) xs) (p x) (list_any p xs) (is_some-position_from p (i + 1) xs)

-- a test that some element passes has a first place
pub is_some-position : {X : Type 0} (p : X → Bool) (xs : List X) → is_some (position p xs) ≡ list_any p xs
is_some-position p xs = ap is_some (position_from-zero p xs) ∙ is_some-position_from p 0 xs
