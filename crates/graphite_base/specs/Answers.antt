-- What the answers of a read and of a write say.
use Rattle.std.specs.Prelude.{ℕ, ◌≤◌, List, length, take, ⊤, Option}
use Rattle.std.specs.Io.KnownBytes.{Consumes, Appends, Keeps, IsAtEnd}
use Rattle.graphite_base.specs.Known.{IsEmptied, AppendsSome}
use Rattle.graphite_base.specs.declared.source.Got.{Got}
use Rattle.graphite_base.specs.declared.source.Got.TheVariants as got
use Rattle.graphite_base.specs.declared.sink.Put.{Put}
use Rattle.graphite_base.specs.declared.sink.Put.TheVariants as put

-- the bytes of a read are one or more, and fit where they are read to
abbrev pub GotFits : Got → List ℕ → Type 0
GotFits (got.Bytes n) into = (1 ≤ n) × (n ≤ length into)
GotFits got.End into = ⊤
GotFits got.Failed into = ⊤

-- a read moved a prefix of what was left; it says the end only where nothing was left, and a failed one moved nothing
abbrev pub GotMoves : Option (List ℕ) → Option (List ℕ) → Got → List ℕ → Type 0
GotMoves old new (got.Bytes n) into = Consumes old new (take n into)
GotMoves old new got.End into = IsAtEnd old × IsEmptied old new
GotMoves old new got.Failed into = Keeps old new

-- the bytes of a write are one or more, and no more than the piece has
abbrev pub PutFits : Put → List ℕ → Type 0
PutFits (put.Took n) piece = (1 ≤ n) × (n ≤ length piece)
PutFits put.Failed piece = ⊤

-- a write took a prefix of the piece, and a failed one took nothing
abbrev pub PutMoves : Option (List ℕ) → Option (List ℕ) → Put → List ℕ → Type 0
PutMoves old new (put.Took n) piece = Appends old new (take n piece)
PutMoves old new put.Failed piece = Keeps old new

-- a writer took a prefix of the piece; where the write failed, that may have been any prefix, which was not brought out
abbrev pub PutReaches : Option (List ℕ) → Option (List ℕ) → Put → List ℕ → Type 0
PutReaches old new (put.Took n) piece = Appends old new (take n piece)
PutReaches old new put.Failed piece = AppendsSome old new piece
