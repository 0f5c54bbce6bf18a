use Rattle.std.proofs.Common.{arith, ◌≡◌, nat_lt, false, ◌∙◌}
use Rattle.std.proofs.lemmas.Bool.Decides.{nat_tests}
use Rattle.graphite_props.proofs.MeetsLemmas.{free-past}
use Rattle.graphite_props.proofs.meets.meets.Goals as goal

pub returns-else-a-end_of_pieces : goal.returns-else-a-end_of_pieces
returns-else-a-end_of_pieces c =
    let no : nat_lt c.a.result c.end_of_pieces.result ≡ false = grind (arith, nat_tests) in
    no ∙ free-past c.args.pieces.now c.args.over c.requires (omega (arith, c.a.ensures.start, c.end_of_pieces.ensures))
