-- The vertices so far have made the superstep.
use Rattle.std.proofs.Common.{◌≡◌, ◌+◌, ◌<◌, ℕ, length, is_some, count_by}
use Rattle.std.specs.List.{range_with_len}
use Rattle.graphite_api.specs.Rules.{point_rules, state_of, input_of}
use Rattle.graphite_api.specs.Supersteps.{superstep}
use Rattle.graphite_api.specs.Outcomes.{entry_of, list_of}
use Rattle.graphite_api.proofs.instant.advance.Given as goal

abbrev pub invariant-loop-v : goal.invariant-loop-v
invariant-loop-v g l =
    let plan = g.P.PointProgram.plan in
    record {
      len : length l.new.items ≡ l.v;
      next : (v : ℕ) → v < l.v → entry_of l.new.items v ≡ superstep plan l.step (entry_of l.outcomes) (list_of l.groups) v;
      calls : g.P.Program.count l.program ≡ g.P.Program.count l.initial.program + count_by (λ v. is_some (input_of (point_rules plan) l.step (state_of (entry_of l.outcomes v)) (list_of l.groups v))) (range_with_len 0 l.v);
    }
