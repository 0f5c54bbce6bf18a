-- Numbers as they are written: canonical decimals.
use Rattle.std.specs.Prelude.{ℕ, ◌+◌, ◌-◌, ◌*◌, ◌^◌, Bool, false, not, ◌&&◌, ◌==◌, nat_le, nat_lt, List, [], ◌∷◌, length, if◌then◌else◌, Option, None, Some}
use Rattle.std.specs.List.{list_all}
use Rattle.std.specs.Char.{is_ascii_digit}

-- a zero with more behind it
abbrev pub has_leading_zero : List ℕ → Bool
has_leading_zero [] = false
has_leading_zero (d ∷ []) = false
has_leading_zero (d ∷ e ∷ ds) = d == 48

-- digits only, at least one, and no leading zero but in `0` itself
abbrev pub is_canonical : List ℕ → Bool
is_canonical field = nat_lt 0 (length field) && not (has_leading_zero field) && list_all is_ascii_digit field

-- each digit counts ten to the number of digits after it
abbrev pub value_of : List ℕ → ℕ
value_of [] = 0
value_of (d ∷ ds) = (d - 48) * 10 ^ length ds + value_of ds

-- the number that a canonical decimal writes, where it is at most `max`
abbrev pub number_in : ℕ → List ℕ → Option ℕ
number_in max field = if is_canonical field && nat_le (value_of field) max then Some (value_of field) else None

-- the number that digits write behind those of `before`, where it is at most `most`; zeros may come first
unfoldable pub digits_after : ℕ → ℕ → List ℕ → Option ℕ
digits_after most before ds =
    let value = before * 10 ^ length ds + value_of ds in
    if list_all is_ascii_digit ds && nat_le value most then Some value else None
