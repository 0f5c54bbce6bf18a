-- What is found hop by hop is the written journey.
use Rattle.std.proofs.Common.{◌≡◌, ap, sym, ◌∙◌, List, map, reverse, is_some}
use Rattle.graphite_api.specs.Hop.{Hop}
use Rattle.graphite_witness.specs.declared.step.Step.{Step}
use Rattle.graphite_api.specs.Table.{vertex_is_alive}
use Rattle.graphite_api.specs.TableHops.{IsHopOn}
use Rattle.graphite_api.specs.Written.{AreWritten}
use Rattle.graphite_witness.specs.Answered.{value_for}
use Rattle.graphite_witness.specs.Found.{BestFor}
use Rattle.graphite_witness.specs.Steps.{step_of}
use Rattle.graphite_witness.proofs.ExistsLemmas.{written-to}
use Rattle.graphite_witness.proofs.StandLemmas.{standing-start}
use Rattle.graphite_witness.proofs.StartLemmas.{start-written}
use Rattle.graphite_witness.proofs.WayLemmas.{found-steps, steps-turned, written-onward}
use Rattle.graphite_witness.proofs.written.witness.Goals as goal
use Rattle.graphite_witness.proofs.written.witness.Goals.{in-Latest+in_ok-steps-in-Latest, in_default+in_ok-steps-in_default}

pub returns : goal.returns
returns c =
    let lives = c.args.answered.now.table.now.lives in
    let arcs = c.args.answered.now.table.now.arcs in
    let query = c.args.answered.now.query in
    let alive = vertex_is_alive lives in
    let steps : List Step = c.match-answered.steps.items in
    let found : (hops : List Hop) × AreWritten alive (IsHopOn arcs) query query.kind (BestFor alive (IsHopOn arcs) query) hops c.args.v c.args.t × (steps ≡ map step_of hops) =
    elim c.match-answered.branch [
      | in-Latest+in_ok-steps-in-Latest w ↦
          let all = w.in_ok-steps-in-Latest.ensures in
          (all.0, written-onward alive (IsHopOn arcs) query query.kind w.in-Latest.is all.0 c.args.v c.args.t all.1, ap (λ xs. xs.items) w.steps-is ∙ all.2)
      | in_default+in_ok-steps-in_default w ↦
          let all = w.in_ok-steps-in_default.ensures in (
            reverse all.0,
            written-to alive (IsHopOn arcs) query (BestFor alive (IsHopOn arcs) query) query.kind w.in_default.not-Latest all.0 c.args.v c.args.t all.1,
            ap (λ xs. xs.items) w.steps-is ∙ w.reverse.ensures.items ∙ ap reverse all.2 ∙ sym (steps-turned all.0),
          )
    ]
    in
    let start = start-written alive (IsHopOn arcs) query (BestFor alive (IsHopOn arcs) query) (standing-start lives c.arcs-arcs.ensures.table.lives_are (IsHopOn arcs) query) found.0 c.args.v c.args.t found.1 in
    found-steps alive (IsHopOn arcs) query c.args.v c.args.t (value_for c.args.answered.now.values.now c.args.v c.args.t) steps
    (ap is_some (sym c.value_of.ensures) ∙ c.if-is_none.ensures) (start.0, found.0, start.1, found.2)
