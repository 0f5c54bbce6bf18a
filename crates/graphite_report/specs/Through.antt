-- For proofs and private functions alone: how a text goes through a buffer to a sink.
use Rattle.std.specs.Prelude.{◌≡◌, ℕ, List, ◌++◌, Option}
use Rattle.std.specs.Io.KnownBytes.{Appends}

-- what was sent, what the buffer holds and what is still to come make the text
abbrev pub Through : (old new : Option (List ℕ)) → (buffer rest text : List ℕ) → Type 0
Through old new buffer rest text = (sent : List ℕ) × Appends old new sent × ((sent ++ buffer) ++ rest ≡ text)

-- a prefix of what the buffer held was sent, and the buffer keeps the rest
abbrev pub Sends : (old new : Option (List ℕ)) → (before after : List ℕ) → Type 0
Sends old new before after = (sent : List ℕ) × Appends old new sent × (sent ++ after ≡ before)
