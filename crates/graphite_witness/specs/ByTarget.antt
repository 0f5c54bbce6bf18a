-- For proofs and private functions alone: arcs in the order of their targets, and where those of each target start.
use Rattle.std.specs.Prelude.{◌≡◌, ◌⊎◌, ℕ, ◌+◌, ◌*◌, ◌^◌, ◌<◌, ◌≤◌, List, length, get_or, slice_index}
use Rattle.std.specs.List.{AllWithin}
use Rattle.graphite_time.specs.Interval.{start_of}
use Rattle.graphite_api.specs.declared.arc.Arc.{Arc}
use Rattle.graphite_witness.specs.Incoming.{ComesFirst}

-- the target, the edge and the start as the digits of one number, which is below 2^128
abbrev pub target_key : Arc → ℕ
target_key arc = (arc.to * 2 ^ 32 + arc.edge) * 2 ^ 64 + start_of arc.over

-- the arc is into a lesser target, or into the same one, and there it comes first
abbrev pub ComesBefore : Arc → Arc → Type 0
ComesBefore arc other = (arc.to < other.to) ⊎ ((arc.to ≡ other.to) × ComesFirst arc other)

-- arcs by target, then by edge, and then by the start of the interval
pub record AreByTarget (arcs : List Arc) : Type 0 where
  pub far : (i j : ℕ) (d : Arc) → i < j → j < length arcs → ComesBefore (get_or arcs i d) (get_or arcs j d)

-- the arcs with targets below v are the first ones, as many as this
pub record IsEntry (arcs : List Arc) (v start : ℕ) : Type 0 where
  pub within : start ≤ length arcs
  pub before : AllWithin (λ arc. arc.to < v) arcs 0 start
  pub after : AllWithin (λ arc. v ≤ arc.to) arcs start (length arcs)

-- where the arcs into each of n vertices start, and where those into the last one end
pub record AreEntries (arcs : List Arc) (n : ℕ) (starts : List ℕ) : Type 0 where
  pub len : length starts ≡ n + 1
  pub start : (v : ℕ) → v ≤ n → IsEntry arcs v (slice_index starts v)
