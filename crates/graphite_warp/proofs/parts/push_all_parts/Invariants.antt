-- The pieces so far were parted.
use Rattle.std.proofs.Common.{take, []}
use Rattle.graphite_part.specs.Pieces.{value_at, last_end}
use Rattle.graphite_part.specs.Fills.{Filled}
use Rattle.graphite_warp.specs.declared.touch.Touch.TheVariants.{All}
use Rattle.graphite_warp.specs.Parts.{triples_of}
use Rattle.graphite_warp.specs.Warp.{warped}
use Rattle.graphite_warp.proofs.parts.push_all_parts.Given as goal

abbrev pub invariant-loop-piece : goal.invariant-loop-piece
invariant-loop-piece g l =
    Filled (warped g.M.Ord.cmp All (value_at l.pieces) l.changes) [] (triples_of g.M.Ord.cmp l.changes l.parts.items) 0 (last_end (take l.piece-index l.pieces))
