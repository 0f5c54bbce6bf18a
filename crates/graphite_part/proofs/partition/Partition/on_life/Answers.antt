-- The pieces of a life's lifespans are a chain.
use Rattle.std.proofs.Common.{map, ap, sym, subst, ◌∙◌}
use Rattle.graphite_part.specs.Pieces.{AreRuns, piece_on, value_on}
use Rattle.graphite_part.proofs.CopyLemmas.{AreRuns-life}
use Rattle.graphite_part.proofs.partition.Partition.on_life.Goals as goal

pub from_pieces-requires : goal.from_pieces-requires
from_pieces-requires g c =
    (AreRuns-life c.args.life.now c.args.value c.in_ok-pieces.pieces.items c.spans-spans.ensures.life (c.in_ok-pieces.ensures ∙ ap (map (piece_on c.args.value)) c.spans-spans.ensures.spans)).in_order

pub returns : goal.returns
returns g c =
    subst (AreRuns (value_on c.args.life.now c.args.value)) (sym c.from_pieces.ensures)
    (AreRuns-life c.args.life.now c.args.value c.in_ok-pieces.pieces.items c.spans-spans.ensures.life (c.in_ok-pieces.ensures ∙ ap (map (piece_on c.args.value)) c.spans-spans.ensures.spans))
