-- For proofs alone: a small program of snapshots, on which the definitions are checked: the least number of links from
-- the sources, which start with Some 0.
use Rattle.std.specs.Prelude.{ℕ, ◌+◌, ◌-◌, ◌^◌, ◌==◌, min, true, false, if◌then◌else◌, List, [], ◌∷◌, Option, None, Some}
use Rattle.std.specs.Ordering.{nat_cmp}
use Rattle.graphite_api.specs.declared.next.Next.{Next}
use Rattle.graphite_api.specs.Plan.{Plan}

-- the first vertex to be told a number takes the least, and sends it on
abbrev pub first_told : ℕ → Option ℕ → List ℕ → Next (Option ℕ)
first_told k (Some distance) group = record { state = Some distance; send = k == 1 }
first_told k None [] = record { state = None; send = false }
first_told k None (note ∷ group) =
    if k == 1 then record { state = None; send = false } else record { state = Some note; send = true }

-- one link more
abbrev pub one_further : Option ℕ → ℕ → ℕ → Option ℕ
one_further None time cost = None
one_further (Some distance) time cost = Some (min (distance + 1) (2 ^ 32 - 1))

abbrev pub breadth_first : Plan (Option ℕ) ℕ
breadth_first = record { next = first_told; note = one_further; order = nat_cmp; always = false }
