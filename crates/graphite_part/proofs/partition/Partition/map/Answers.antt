-- The function may be called with each piece's value.
use Rattle.graphite_part.proofs.MapLemmas.{All-from_for_some}
use Rattle.graphite_part.proofs.partition.Partition.map.Goals as goal

pub mapped_pieces-requires-clause-callable : goal.mapped_pieces-requires-clause-callable
mapped_pieces-requires-clause-callable g c =
    All-from_for_some _ c.args.self.now c.pieces.result.now c.pieces.ensures.pieces c.pieces.ensures.chain c.requires
