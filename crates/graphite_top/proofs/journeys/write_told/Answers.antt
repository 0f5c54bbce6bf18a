-- The text with the journey of one vertex.
use Rattle.std.proofs.Common.{sym, subst, Some, OnErr}
use Rattle.graphite_report.specs.Given.{durations_in, heading_of, values_in}
use Rattle.graphite_report.specs.Written.{AppendsPrefix}
use Rattle.graphite_top.specs.Journeys.{journeys_text}
use Rattle.graphite_top.proofs.journeys.write_told.Goals as goal

pub returns-in-One-clause-err : goal.returns-in-One-clause-err
returns-in-One-clause-err g c = λ report steps tells.
    subst (λ whose. OnErr c.write_one_path.result (AppendsPrefix (g.K.Sink.written c.args.sink.now) (g.K.Sink.written c.write_one_path.new.sink)
    (journeys_text (Some whose) report (heading_of c.args.head.now) c.args.graph.now (values_in c.args.answered.now.values.now) (durations_in c.args.durations.now) steps)))
    (sym c.in-One.is) (c.write_one_path.ensures.err steps tells)
