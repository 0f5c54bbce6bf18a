-- The messages so far start at the instant.
use Rattle.std.specs.List.{AllWithin}
use Rattle.std.proofs.Common.{◌≡◌}
use Rattle.graphite_time.specs.Interval.{start_of}
use Rattle.graphite_warp.proofs.changes.starts_until.Given as goal

-- each message up to the place starts then
abbrev pub invariant-loop-place : goal.invariant-loop-place
invariant-loop-place g l = AllWithin (λ m. start_of m.over ≡ l.t) l.messages l.from l.place
