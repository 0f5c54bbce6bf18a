use Rattle.std.proofs.Common.{◌≡◌, true, drop}
use Rattle.graphite_text.proofs.GapLemmas.{no_gap_from}
use Rattle.graphite_text.proofs.fields.have_no_gap.Given as goal

abbrev pub invariant-loop-c : goal.invariant-loop-c
invariant-loop-c l = no_gap_from l.field_is_empty (drop l.c-index l.line) ≡ no_gap_from true l.line
