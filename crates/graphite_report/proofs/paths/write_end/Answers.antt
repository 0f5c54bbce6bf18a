use Rattle.std.proofs.Common.{◌++◌, []}
use Rattle.std.specs.Prelude.{codes}
use Rattle.graphite_report.proofs.ThroughLemmas.{Through-start, Through-whole, Appends-sent, AppendsPrefix-through, AppendsPrefix-part, OnErr-from}
use Rattle.graphite_report.proofs.paths.write_end.Goals as goal

pub returns-in_err-extend_from_slice-clause-err : goal.returns-in_err-extend_from_slice-clause-err
returns-in_err-extend_from_slice-clause-err g c =
    OnErr-from _ (AppendsPrefix-through _ _ c.args.buffer.now.items (codes "end\n") _ (Through-start _ c.args.buffer.now.items (codes "end\n")))

pub returns-in_err-send-clause-err : goal.returns-in_err-send-clause-err
returns-in_err-send-clause-err g c =
    let through = Through-whole (g.K.Sink.written c.args.sink.now) c.extend_from_slice.new.self.items (c.args.buffer.now.items ++ codes "end\n") c.in_ok-extend_from_slice.ensures.items in
    OnErr-from _ (AppendsPrefix-part _ _ _ c.extend_from_slice.new.self.items [] _ c.in_err-send.ensures.part through)

pub returns-clause-ok : goal.returns-clause-ok
returns-clause-ok g c =
    let through = Through-whole (g.K.Sink.written c.args.sink.now) c.extend_from_slice.new.self.items (c.args.buffer.now.items ++ codes "end\n") c.in_ok-extend_from_slice.ensures.items in
    Appends-sent _ _ _ c.extend_from_slice.new.self.items c.send.new.buffer.items _ c.in_ok-send.ensures.sends c.in_ok-send.ensures.empty through
