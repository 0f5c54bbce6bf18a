-- For private functions alone: the hash of an owner and the number of a key.
use Rattle.std.specs.Prelude.{ℕ, ◌+◌, ◌*◌, ◌/◌, ◌%◌}

-- the last eight bytes, the first of them lowest, after one more
abbrev pub read_in : ℕ → ℕ → ℕ
read_in last byte = last / 256 + byte * 72057594037927936

-- the hash of a place, whose eight bytes are the owner's and then the key's: its lower 24 bits rise by one with the owner
abbrev pub place_hash : ℕ → ℕ
place_hash bytes =
    let place = (bytes % 4294967296 + bytes / 4294967296 * 2654435771) % 4294967296 in
    place * 2654435761 / 16777216 % 256 * 16777216 + place % 16777216
