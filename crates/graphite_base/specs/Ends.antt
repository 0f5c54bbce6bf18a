-- What the ends in memory answer.
use Rattle.std.specs.Prelude.{ℕ, zero, suc, ◌-◌, Option, Bool, ◌==◌, min, List, [], ◌∷◌, length, slice_get}
use Rattle.std.specs.List.{list_any}
use Rattle.std.specs.Option.{option_map_or}
use Rattle.graphite_base.specs.declared.source.Got.{Got}
use Rattle.graphite_base.specs.declared.source.Got.TheVariants as got
use Rattle.graphite_base.specs.declared.sink.Put.{Put}
use Rattle.graphite_base.specs.declared.sink.Put.TheVariants as put

-- as many of the bytes that are left as a limit allows, and the end where none are left
abbrev pub got_of : List ℕ → ℕ → Got
got_of [] most = got.End
got_of (b ∷ bs) most = got.Bytes (min (length (b ∷ bs)) most)

-- as many bytes as there is room for and a limit allows, and a failure where there is no room
abbrev pub put_of : ℕ → ℕ → Put
put_of zero most = put.Failed
put_of (suc n) most = put.Took (min (suc n) most)

-- whether the call of this number is listed; calls are counted from 1
abbrev pub is_listed : List ℕ → ℕ → Bool
is_listed calls call = list_any (λ listed. listed == call) calls

-- the greatest piece of a call: the one that the list has for it, and no more than there is room for
abbrev pub most_at : List ℕ → ℕ → ℕ → ℕ
most_at pieces call room = option_map_or (λ piece. min piece room) (slice_get pieces (call - 1)) room

-- a sink that holds its bytes: those that were written, how many it can hold, and its count of faults
pub record Held : Type 0 where
  pub bytes : List ℕ
  pub room : ℕ
  pub faults : ℕ

-- which calls fail, the greatest pieces of the first calls, and how many calls were made
pub record Script : Type 0 where
  pub pieces : List ℕ
  pub fails : List ℕ
  pub calls : ℕ

-- a source with a script: the bytes that are left, and its count of faults
pub record Playing : Type 0 where
  pub left : List ℕ
  pub script : Script
  pub faults : ℕ

-- a sink with a script: as one that holds its bytes
pub record Recording : Type 0 where
  pub bytes : List ℕ
  pub room : ℕ
  pub script : Script
  pub faults : ℕ

-- a source over a reader of std: what the reader has left, where it is known, and the count of faults
pub record Reading : Type 0 where
  pub remaining : Option (List ℕ)
  pub faults : ℕ

-- a sink over a writer of std: what the writer holds, where it is known, and the count of faults
pub record Writing : Type 0 where
  pub contents : Option (List ℕ)
  pub faults : ℕ
