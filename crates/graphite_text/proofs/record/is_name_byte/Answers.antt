-- The table is held against the definition at each of the 256 bytes, by computing.
use Rattle.std.proofs.Common.{◌≡◌, ℕ, ◌<◌, Bool, not, nat_eq, List, map, get_or, refl, sym, ap, ◌∙◌, arith}
use Rattle.std.proofs.Math.ListN.{get_or-map}
use Rattle.std.proofs.lemmas.List.FromFn.{get_or-map-range_with_len}
use Rattle.std.specs.List.{range_with_len}
use Rattle.graphite_text.specs.declared.record.TheConstants.{NAME_BYTES}
use Rattle.graphite_text.specs.Forms.{is_name_byte}
use Rattle.graphite_text.proofs.record.is_name_byte.Goals as goal

-- what the code asks of a place of the table
abbrev is_marked : ℕ → Bool
is_marked place = not (nat_eq place 44)

-- each place of the table says what its byte is
table_is : map is_marked NAME_BYTES ≡ map is_name_byte (range_with_len 0 256)
table_is = refl

read : (c : ℕ) → c < 256 → is_marked (get_or NAME_BYTES c 0) ≡ is_name_byte c
read c within =
    sym (get_or-map is_marked NAME_BYTES c 0)
    ∙ ap (λ (table : List Bool). get_or table c (is_marked 0)) table_is
    ∙ get_or-map-range_with_len is_name_byte 0 256 c c (is_marked 0) within (omega arith)

pub returns : goal.returns
returns c = rw c.from.ensures (read c.args.c (omega arith))
