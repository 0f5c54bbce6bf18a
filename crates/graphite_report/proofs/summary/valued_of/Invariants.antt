use Rattle.std.proofs.Common.{◌≡◌, ◌≤◌, Option, ℕ, count_by, is_some, take}
use Rattle.graphite_part.specs.declared.piece.Piece.{Piece}
use Rattle.graphite_report.proofs.summary.valued_of.Given as goal

abbrev pub invariant-loop-piece : goal.invariant-loop-piece
invariant-loop-piece l = record {
  valued : l.valued ≡ count_by (λ (piece : Piece (Option ℕ)). is_some piece.value) (take l.piece-index l.pieces);
  within : l.valued ≤ l.piece-index;
}
