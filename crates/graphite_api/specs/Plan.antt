-- A program of snapshots as plain functions.
use Rattle.std.specs.Prelude.{ℕ, Bool, List, Option}
use Rattle.std.specs.declared.cmp.Ordering.{Ordering}
use Rattle.graphite_time.specs.declared.interval.Interval.{Interval}
use Rattle.graphite_warp.specs.declared.message.Message.{Message}
use Rattle.graphite_api.specs.declared.next.Next.{Next}

-- the outcome of a superstep for a vertex, given its state and its group; what it tells along an
-- arc of this time and cost; the order of notes; and whether every vertex computes in every superstep
pub record Plan (S M : Type 0) : Type 0 where
  pub next : ℕ → S → List M → Next S
  pub note : S → ℕ → ℕ → Option M
  pub order : M → M → Ordering
  pub always : Bool

-- a note that holds at exactly the instants of an interval
abbrev pub message_over : {M : Type 0} → Interval → M → Message M
message_over over note = record { over = over; note = note }
