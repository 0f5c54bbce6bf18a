-- What a search for the best values of journeys starts from.
use Rattle.std.specs.Prelude.{◌≡◌, ℕ, ◌≤◌, IsTrue, List, Option, Some}
use Rattle.graphite_time.specs.declared.interval.Interval.{Interval}
use Rattle.graphite_api.specs.Hop.{Hop, Waits}
use Rattle.graphite_api.specs.Table.{vertex_is_alive}
use Rattle.graphite_api.specs.Values.{Values, AreLawful}

-- A search for best values: values that meet the laws, hops that take time, and the value that each vertex starts with,
-- which it may have only while it is alive.
pub record IsJourneySearch (values : Values) (lives : List (List Interval)) (IsHop : Hop → Type 0) (start : ℕ → ℕ → Option ℕ) : Type 0 where
  pub lawful : AreLawful values
  -- hops take time
  pub takes_time : (hop : Hop) → IsHop hop → 1 ≤ hop.time
  -- a search starts only where a vertex is alive, with a value that can stand there
  pub alive : (v t x : ℕ) → start v t ≡ Some x → IsTrue (vertex_is_alive lives v t)
  pub stands : (v t x : ℕ) → start v t ≡ Some x → IsTrue (values.stands x t)
  -- who waits finds a start value that is as good
  pub kept : (v p q x : ℕ) → Waits (vertex_is_alive lives) v p q → start v p ≡ Some x → (y : ℕ) × (start v q ≡ Some y) × IsTrue (values.good y x)
