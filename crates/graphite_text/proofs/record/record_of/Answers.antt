use Rattle.std.proofs.Common.{sym}
use Rattle.graphite_text.proofs.RecordLemmas.{line_form-record}
use Rattle.graphite_text.proofs.record.record_of.Goals as goal

pub returns-else-line-gt-LINE_LIMIT : goal.returns-else-line-gt-LINE_LIMIT
returns-else-line-gt-LINE_LIMIT c =
    line_form-record c.args.line.now _ (sym c.if-is_skipped.ensures) c.in-Ok.ensures c.if-line-gt-LINE_LIMIT.false
