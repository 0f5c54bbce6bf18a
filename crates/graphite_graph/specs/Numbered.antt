-- Names that are numbered: the number behind their prefix says where a name stands.
use Rattle.std.specs.Prelude.{◌≡◌, ℕ, ◌+◌, ◌-◌, ◌^◌, List, [], ◌∷◌, length, take, drop, reverse, Option, None, Some, if◌then◌else◌}
use Rattle.std.specs.Char.{is_ascii_digit}
use Rattle.std.specs.List.{take_while}
use Rattle.std.specs.Str.{bytes_eq}
use Rattle.graphite_base.specs.Numbers.{number_in}

-- a name without the digits that it ends in
abbrev pub prefix_of : List ℕ → List ℕ
prefix_of name = take (length name - length (take_while is_ascii_digit (reverse name))) name

-- the number behind a prefix in a name, where it is a canonical decimal and fits 64 bits
unfoldable pub number_after : List ℕ → List ℕ → Option ℕ
number_after prefix name = if bytes_eq (take (length prefix) name) prefix then number_in (2 ^ 64 - 1) (drop (length prefix) name) else None

-- the names are the prefix with numbers that rise by one, from this one on
abbrev pub AreNumbered : List ℕ → ℕ → List (List ℕ) → Type 0
AreNumbered prefix n [] = Unit {0}
AreNumbered prefix n (name ∷ names) = (number_after prefix name ≡ Some n) × AreNumbered prefix (n + 1) names
