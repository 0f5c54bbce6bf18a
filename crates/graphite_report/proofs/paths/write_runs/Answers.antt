use Rattle.std.proofs.Common.{◌≡◌, ◌<◌, ◌≤◌, ◌+◌, ◌++◌, ℕ, None, length, sym, ap, ◌∙◌, subst, arith}
use Rattle.graphite_part.specs.Pieces.{value_at, IsChain}
use Rattle.graphite_report.specs.Given.{values_in}
use Rattle.graphite_report.specs.Report.{name_of_edge, path_run, path_lines}
use Rattle.graphite_report.specs.Through.{Through}
use Rattle.graphite_report.proofs.PathLemmas.{runs_left, path_lines-pieces, run_pushed, runs_left-end, run_value, values_of_pieces}
use Rattle.graphite_report.proofs.ThroughLemmas.{Through-start, Through-push, Through-send, AppendsPrefix-through, AppendsPrefix-part, OnErr-from}
use Rattle.graphite_report.proofs.paths.write_runs.Goals as goal

pub loop-piece-init : goal.loop-piece-init
loop-piece-init g c = record {
  through = λ steps told.
      let journeys = c.args.journeys.now in
      let edge_name = name_of_edge journeys.graph.now in
      let pieces = c.pieces-pieces.result.now in
      let v = c.args.v in
      let horizon = journeys.graph.now.horizon in
      let values = values_in journeys.answered.values.now v in
      let within : v < length journeys.answered.values.now = omega (arith, c.requires.journeys.all.len, c.requires.vertex) in
      let same = values_of_pieces journeys.answered.values.now v pieces c.index-journeys-v.result within c.pieces-pieces.ensures.pieces in
      let nothing : (t : ℕ) → horizon ≤ t → value_at pieces t ≡ None =
      λ t h. ap (λ vs. vs t) same ∙ c.requires.journeys.all.alive v t c.requires.vertex (c.horizon-horizon.ensures.ended v t c.requires.vertex h)
      in
      let is = path_lines-pieces c.args.name.now edge_name (steps v) pieces horizon (subst IsChain (sym c.pieces-pieces.ensures.pieces) c.pieces-pieces.ensures.chain) nothing ∙ ap (λ vs. path_lines c.args.name.now edge_name vs (steps v) horizon) same in
      let old = c.args.buffer.now.items in
      let rest = runs_left (path_run c.args.name.now edge_name (steps v)) pieces 0 in
      let written = g.K.Sink.written c.args.sink.now in
      subst (λ text. Through written written old rest (old ++ text)) is (Through-start written old rest);
  later = omega arith;
}

pub push_path-requires-clause-value : goal.push_path-requires-clause-value
push_path-requires-clause-value g c =
    let journeys = c.args.journeys.now in
    let edge_name = name_of_edge journeys.graph.now in
    let pieces = c.pieces-pieces.result.now in
    let v = c.args.v in
    let within : v < length journeys.answered.values.now = omega (arith, c.requires.journeys.all.len, c.requires.vertex) in
    run_value journeys.answered.values.now v pieces c.index-journeys-v.result c.loop-piece.piece-index c.piece-item.result within c.pieces-pieces.ensures.pieces (subst IsChain (sym c.pieces-pieces.ensures.pieces) c.pieces-pieces.ensures.chain) c.loop-piece-test.true c.piece-item.is

pub returns-in_err-push_path-clause-err : goal.returns-in_err-push_path-clause-err
returns-in_err-push_path-clause-err g c = λ steps told.
    let journeys = c.args.journeys.now in
    let edge_name = name_of_edge journeys.graph.now in
    let pieces = c.pieces-pieces.result.now in
    let v = c.args.v in
    let lines = path_run c.args.name.now edge_name (steps v) in
    let k = c.loop-piece.piece-index in
    OnErr-from _ (AppendsPrefix-through _ _ c.loop-piece.buffer.items (runs_left lines pieces k) _ (c.loop-piece.invariant.through steps told))

pub returns-in_err-send_full-clause-err : goal.returns-in_err-send_full-clause-err
returns-in_err-send_full-clause-err g c = λ steps told.
    let journeys = c.args.journeys.now in
    let edge_name = name_of_edge journeys.graph.now in
    let pieces = c.pieces-pieces.result.now in
    let v = c.args.v in
    let lines = path_run c.args.name.now edge_name (steps v) in
    let k = c.loop-piece.piece-index in
    let pushed = run_pushed lines pieces k c.piece-item.result c.loop-piece.buffer.items c.push_path.new.into.items c.loop-piece-test.true c.piece-item.is (c.in_ok-push_path.ensures steps told) in
    let through = Through-push _ _ c.loop-piece.buffer.items (runs_left lines pieces k) c.push_path.new.into.items (runs_left lines pieces (k + 1)) _ pushed (c.loop-piece.invariant.through steps told) in
    OnErr-from _ (AppendsPrefix-part _ _ _ c.push_path.new.into.items (runs_left lines pieces (k + 1)) _ c.in_err-send_full.ensures.part through)

pub loop-piece-preserved : goal.loop-piece-preserved
loop-piece-preserved g c = record {
  through = λ steps told.
      let journeys = c.args.journeys.now in
      let edge_name = name_of_edge journeys.graph.now in
      let pieces = c.pieces-pieces.result.now in
      let v = c.args.v in
      let lines = path_run c.args.name.now edge_name (steps v) in
      let k = c.loop-piece.piece-index in
      let pushed = run_pushed lines pieces k c.piece-item.result c.loop-piece.buffer.items c.push_path.new.into.items c.loop-piece-test.true c.piece-item.is (c.in_ok-push_path.ensures steps told) in
      let through = Through-push _ _ c.loop-piece.buffer.items (runs_left lines pieces k) c.push_path.new.into.items (runs_left lines pieces (k + 1)) _ pushed (c.loop-piece.invariant.through steps told) in
      Through-send _ _ _ c.push_path.new.into.items c.send_full.new.buffer.items (runs_left lines pieces (k + 1)) _ c.in_ok-send_full.ensures.sends through;
  later = omega (arith, c.send_full.ensures.later, c.loop-piece.invariant.later);
}

pub returns-clause-ok : goal.returns-clause-ok
returns-clause-ok g c = λ steps told.
    let journeys = c.args.journeys.now in
    let edge_name = name_of_edge journeys.graph.now in
    let pieces = c.pieces-pieces.result.now in
    let v = c.args.v in
    let lines = path_run c.args.name.now edge_name (steps v) in
    let k = c.loop-piece.piece-index in
    let text = c.args.buffer.now.items ++ path_lines c.args.name.now edge_name (values_in journeys.answered.values.now v) (steps v) journeys.graph.now.horizon in
    let all : length pieces ≤ k = omega arith in
    subst (λ rest. Through (g.K.Sink.written c.args.sink.now) (g.K.Sink.written c.loop-piece.sink) c.loop-piece.buffer.items rest text)
    (runs_left-end lines pieces k all) (c.loop-piece.invariant.through steps told)
