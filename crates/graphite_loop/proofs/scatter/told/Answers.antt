-- The instants that both hold are instants of the arc.
use Rattle.graphite_part.proofs.ZipLemmas.{common-within}
use Rattle.graphite_loop.proofs.scatter.told.Goals as goal

pub scatter-requires-clause-starts : goal.scatter-requires-clause-starts
scatter-requires-clause-starts g c =
    (common-within c.args.piece.now.over c.args.arc.now.over c.in_ok-over.over c.in_ok-over.ensures.common).1

pub scatter-requires-clause-ends : goal.scatter-requires-clause-ends
scatter-requires-clause-ends g c =
    (common-within c.args.piece.now.over c.args.arc.now.over c.in_ok-over.over c.in_ok-over.ensures.common).3
