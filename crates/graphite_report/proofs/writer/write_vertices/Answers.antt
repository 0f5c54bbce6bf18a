use Rattle.std.proofs.Common.{◌≤◌, ◌+◌, ◌++◌, length, subst, arith}
use Rattle.graphite_report.specs.Given.{values_in}
use Rattle.graphite_report.specs.Lines.{lines_from}
use Rattle.graphite_report.specs.Through.{Through}
use Rattle.graphite_report.proofs.LineLemmas.{lines_from-end}
use Rattle.graphite_report.proofs.ThroughLemmas.{Through-start, Through-push, Through-send, AppendsPrefix-through, AppendsPrefix-part, OnErr-from}
use Rattle.graphite_report.proofs.writer.write_vertices.Goals as goal

pub loop-v-init : goal.loop-v-init
loop-v-init g c = record {
  through = Through-start (g.K.Sink.written c.args.sink.now) c.args.buffer.now.items (lines_from c.args.form c.args.graph.now (values_in c.args.values.now) 0);
  later = omega arith;
}

pub returns-in_err-push_vertex-clause-err : goal.returns-in_err-push_vertex-clause-err
returns-in_err-push_vertex-clause-err g c =
    OnErr-from _ (AppendsPrefix-through _ _ c.loop-v.buffer.items (lines_from c.args.form c.args.graph.now (values_in c.args.values.now) c.loop-v.v) _ c.loop-v.invariant.through)

pub returns-in_err-send_full-clause-err : goal.returns-in_err-send_full-clause-err
returns-in_err-send_full-clause-err g c =
    let before = lines_from c.args.form c.args.graph.now (values_in c.args.values.now) c.loop-v.v in
    let after = lines_from c.args.form c.args.graph.now (values_in c.args.values.now) (c.loop-v.v + 1) in
    let through = Through-push _ _ c.loop-v.buffer.items before c.push_vertex.new.into.items after _ c.in_ok-push_vertex.ensures c.loop-v.invariant.through in
    OnErr-from _ (AppendsPrefix-part _ _ _ c.push_vertex.new.into.items after _ c.in_err-send_full.ensures.part through)

pub loop-v-preserved : goal.loop-v-preserved
loop-v-preserved g c =
    let before = lines_from c.args.form c.args.graph.now (values_in c.args.values.now) c.loop-v.v in
    let after = lines_from c.args.form c.args.graph.now (values_in c.args.values.now) (c.loop-v.v + 1) in
    let through = Through-push _ _ c.loop-v.buffer.items before c.push_vertex.new.into.items after _ c.in_ok-push_vertex.ensures c.loop-v.invariant.through in
    record {
      through = Through-send _ _ _ c.push_vertex.new.into.items c.send_full.new.buffer.items after _ c.in_ok-send_full.ensures.sends through;
      later = omega (arith, c.send_full.ensures.later, c.loop-v.invariant.later);
    }

pub returns-clause-ok : goal.returns-clause-ok
returns-clause-ok g c =
    let all : length c.args.graph.now.vertices ≤ c.loop-v.v = omega arith in
    subst (λ rest. Through (g.K.Sink.written c.args.sink.now) (g.K.Sink.written c.loop-v.sink) c.loop-v.buffer.items rest (c.args.buffer.now.items ++ lines_from c.args.form c.args.graph.now (values_in c.args.values.now) 0))
    (lines_from-end c.args.form c.args.graph.now (values_in c.args.values.now) c.loop-v.v all) c.loop-v.invariant.through
