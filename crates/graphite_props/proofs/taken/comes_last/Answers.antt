use Rattle.std.proofs.Common.{arith, sym}
use Rattle.std.proofs.lemmas.Bool.{leb-true}
use Rattle.graphite_props.proofs.TakenLemmas.{all-last}
use Rattle.graphite_props.proofs.taken.comes_last.Goals as goal

pub returns-in-Some : goal.returns-in-Some
returns-in-Some c low =
    all-last c.args.rows.now c.args.code c.in-Some.row.now c.requires (sym c.in-Some.ensures.value) (omega (arith, leb-true _ _ low, c.code_of.ensures))
