use Rattle.std.proofs.Common.{arith, sym}
use Rattle.graphite_words.proofs.QueryLemmas.{has_report, horizon_within, within}
use Rattle.graphite_words.proofs.values.made_by.Goals as goal

pub invariant_of-result-clause-few : goal.invariant_of-result-clause-few
invariant_of-result-clause-few c = (omega (arith, within c.from.result c.in_ok-vertices.vertices c.as_bytes-2.result.now (sym c.in_ok-vertices.ensures), c.from.ensures), omega (arith, within c.from-2.result c.in_ok-edges.edges c.as_bytes-3.result.now (sym c.in_ok-edges.ensures), c.from-2.ensures))

pub invariant_of-result-clause-in_time : goal.invariant_of-result-clause-in_time
invariant_of-result-clause-in_time c = horizon_within c.args.horizon.now c.in_ok-horizon.horizon (sym c.in_ok-horizon.ensures)

pub invariant_of-result-clause-has_report : goal.invariant_of-result-clause-has_report
invariant_of-result-clause-has_report c = has_report c.args.of.now c.in_ok-of.of (sym c.in_ok-of.ensures)
