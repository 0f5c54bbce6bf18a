-- How many lines a report has for the values of a vertex: as many as the vertex has pieces. And the sum of these.
use Rattle.std.proofs.Common.{◌≡◌, ℕ, ◌+◌, ◌≤◌, List, [], ◌∷◌, ◌++◌, length, map, Option, None, is_some, refl, sym, ap, ◌∙◌, arith, sum_by, count_by, cond}
use Rattle.std.specs.List.{range_with_len}
use Rattle.std.proofs.lemmas.List.{map-id, length-map}
use Rattle.std.proofs.lemmas.List.FromFn.{map-range_with_len_more}
use Rattle.std.proofs.lemmas.List.Sums.{sum_by-cons, sum_by_push}
use Rattle.graphite_part.specs.declared.piece.Piece.{Piece}
use Rattle.graphite_part.specs.Pieces.{IsChain, value_at, run_of}
use Rattle.graphite_part.specs.Runs.{Run, runs_of}
use Rattle.graphite_part.proofs.PiecesLemmas.{runs_of-pieces}
use Rattle.graphite_report.specs.Report.{same_value, line_count, valued_line_count}
use Rattle.graphite_report.proofs.LineLemmas.{values_apart}

-- ---- the lines of one vertex

-- the runs of the values of a vertex are its pieces
runs_are_pieces : (pieces : List (Piece (Option ℕ))) (horizon : ℕ) → IsChain pieces → ((t : ℕ) → horizon ≤ t → value_at pieces t ≡ None) → map run_of pieces ≡ runs_of same_value (value_at pieces) horizon
runs_are_pieces pieces horizon chain nothing =
    runs_of-pieces same_value values_apart (value_at pieces) horizon pieces (record { in_order = chain; values = λ t. refl }) nothing

-- a run has a number where its piece has one
valued_runs : (pieces : List (Piece (Option ℕ))) → count_by (λ (run : Run (Option ℕ)). is_some run.value) (map run_of pieces) ≡ count_by (λ (piece : Piece (Option ℕ)). is_some piece.value) pieces
valued_runs [] = refl
valued_runs (piece ∷ pieces) =
    sum_by-cons (λ (run : Run (Option ℕ)). cond (is_some run.value) 1 0) (run_of piece) (map run_of pieces)
    ∙ ap (λ n. cond (is_some piece.value) 1 0 + n) (valued_runs pieces)
    ∙ sym (sum_by-cons (λ (piece : Piece (Option ℕ)). cond (is_some piece.value) 1 0) piece pieces)

-- there are as many lines as pieces
pub line_count-pieces : (pieces : List (Piece (Option ℕ))) (horizon : ℕ) → IsChain pieces → ((t : ℕ) → horizon ≤ t → value_at pieces t ≡ None) → length pieces ≡ line_count (value_at pieces) horizon
line_count-pieces pieces horizon chain nothing = sym (length-map pieces run_of) ∙ ap length (runs_are_pieces pieces horizon chain nothing)

-- and as many with a number
pub valued_line_count-pieces : (pieces : List (Piece (Option ℕ))) (horizon : ℕ) → IsChain pieces → ((t : ℕ) → horizon ≤ t → value_at pieces t ≡ None) → count_by (λ (piece : Piece (Option ℕ)). is_some piece.value) pieces ≡ valued_line_count (value_at pieces) horizon
valued_line_count-pieces pieces horizon chain nothing =
    sym (valued_runs pieces) ∙ ap (count_by (λ (run : Run (Option ℕ)). is_some run.value)) (runs_are_pieces pieces horizon chain nothing)

-- ---- the lines of all vertices

-- one vertex more
sum_by-range_more : (count : ℕ → ℕ) (n : ℕ) → sum_by count (range_with_len 0 (n + 1)) ≡ sum_by count (range_with_len 0 n) + count n
sum_by-range_more count n =
    let longer : range_with_len 0 (n + 1) ≡ range_with_len 0 n ++ n ∷ [] =
    sym (map-id (range_with_len 0 (n + 1))) ∙ map-range_with_len_more (λ k. k) 0 n n (omega arith) ∙ ap (λ xs. xs ++ n ∷ []) (map-id (range_with_len 0 n))
    in
    ap (sum_by count) longer ∙ sum_by_push count (range_with_len 0 n) n

-- so a sum over the vertices before one grows by what that one counts
pub sum_more : (count : ℕ → ℕ) (n before more : ℕ) → before ≡ sum_by count (range_with_len 0 n) → more ≡ count n → before + more ≡ sum_by count (range_with_len 0 (n + 1))
sum_more count n before more so_far here = omega (arith, so_far, here, sum_by-range_more count n)
