use Rattle.std.proofs.Common.{◌≡◌, ◌<◌, length, All, false, nat_eq}
use Rattle.std.specs.List.{list_any}
use Rattle.graphite_props.specs.Store.{timelines_of}
use Rattle.graphite_props.specs.Taken.{ArePainted}
use Rattle.graphite_props.proofs.places_of.hashed_of.Given as goal

abbrev pub invariant-loop-number : goal.invariant-loop-number
invariant-loop-number l =
    (goal.iterator-loop-number).can_next l.number-iterator
    × (goal.iterator-loop-number).is_finite l.number-iterator
    × All (λ n. n < length l.rows) l.number-iterator
    × ArePainted l.rows (λ k. list_any (nat_eq k) l.number-iterator ≡ false) (timelines_of l.hashed)
