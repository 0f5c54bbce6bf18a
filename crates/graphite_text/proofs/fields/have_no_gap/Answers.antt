use Rattle.std.proofs.Common.{arith}
use Rattle.std.proofs.lemmas.Grind.{common_steps}
use Rattle.graphite_text.proofs.GapLemmas.{no_gap_from-true}
use Rattle.graphite_text.proofs.fields.have_no_gap.Goals as goal

pub returns-then-field_is_empty : goal.returns-then-field_is_empty
returns-then-field_is_empty c =
    let read = no_gap_from-true c.args.line.now in
    grind (arith, common_steps)

pub returns : goal.returns
returns c =
    let read = no_gap_from-true c.args.line.now in
    grind (arith, common_steps)
