-- What happens to bytes that an object may tell: the bytes that a source has left, or that a sink was written.
-- Where nothing is told, each of these says nothing. `Consumes`, `Appends`, `Keeps` and `IsAtEnd` are std's.
use Rattle.std.specs.Prelude.{◌≡◌, ℕ, ◌<◌, ◌≤◌, List, [], length, take, ⊤, Option, None, Some}
use Rattle.std.specs.Io.KnownBytes.{Appends, Consumes}

-- told bytes are all gone
abbrev pub IsEmptied : Option (List ℕ) → Option (List ℕ) → Type 0
IsEmptied None new = ⊤
IsEmptied (Some xs) new = new ≡ Some []

-- told bytes were exactly bs, and are all gone
abbrev pub IsWhole : Option (List ℕ) → Option (List ℕ) → List ℕ → Type 0
IsWhole None new bs = ⊤
IsWhole (Some xs) new bs = (xs ≡ bs) × (new ≡ Some [])

-- told bytes grew by a prefix of bs that is not all of it
abbrev pub AppendsPart : Option (List ℕ) → Option (List ℕ) → List ℕ → Type 0
AppendsPart old new bs = (n : ℕ) × (n < length bs) × Appends old new (take n bs)

-- told bytes grew by a prefix of bs, which may be all of it, or nothing
abbrev pub AppendsSome : Option (List ℕ) → Option (List ℕ) → List ℕ → Type 0
AppendsSome old new bs = (n : ℕ) × (n ≤ length bs) × Appends old new (take n bs)

-- so many told bytes were taken
abbrev pub TookJust : Option (List ℕ) → Option (List ℕ) → ℕ → Type 0
TookJust old new count = (bs : List ℕ) × (length bs ≡ count) × Consumes old new bs

-- no more than so many told bytes were taken
abbrev pub TookAtMost : Option (List ℕ) → Option (List ℕ) → ℕ → Type 0
TookAtMost old new most = (bs : List ℕ) × (length bs ≤ most) × Consumes old new bs
