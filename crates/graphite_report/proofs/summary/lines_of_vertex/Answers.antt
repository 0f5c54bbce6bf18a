use Rattle.std.proofs.Common.{◌≡◌, ◌≤◌, ℕ, None, length, ap, ◌∙◌, arith}
use Rattle.std.specs.Prelude.{count_by, is_some}
use Rattle.graphite_part.specs.Pieces.{value_at}
use Rattle.graphite_report.specs.Report.{line_count, valued_line_count}
use Rattle.graphite_report.proofs.LineLemmas.{values_of}
use Rattle.graphite_report.proofs.SummaryLemmas.{line_count-pieces, valued_line_count-pieces}
use Rattle.graphite_report.proofs.summary.lines_of_vertex.Goals as goal

pub returns-clause-lines : goal.returns-clause-lines
returns-clause-lines c =
    let horizon = c.args.graph.now.horizon in
    let v = c.args.v in
    let pieces = c.index-values-v.result in
    let same = values_of c.args.values.now v pieces (omega (arith, c.requires.all.len, c.requires.vertex)) c.index-values-v.is in
    let nothing : (t : ℕ) → horizon ≤ t → value_at pieces t ≡ None =
    λ t h. ap (λ vs. vs t) same ∙ c.requires.all.alive v t c.requires.vertex (c.horizon-horizon.ensures.ended v t c.requires.vertex h)
    in
    ap length c.pieces-pieces.ensures.pieces ∙ line_count-pieces pieces horizon c.pieces-pieces.ensures.chain nothing ∙ ap (λ vs. line_count vs horizon) same

pub returns-clause-valued : goal.returns-clause-valued
returns-clause-valued c =
    let horizon = c.args.graph.now.horizon in
    let v = c.args.v in
    let pieces = c.index-values-v.result in
    let same = values_of c.args.values.now v pieces (omega (arith, c.requires.all.len, c.requires.vertex)) c.index-values-v.is in
    let nothing : (t : ℕ) → horizon ≤ t → value_at pieces t ≡ None =
    λ t h. ap (λ vs. vs t) same ∙ c.requires.all.alive v t c.requires.vertex (c.horizon-horizon.ensures.ended v t c.requires.vertex h)
    in
    c.valued_of.ensures ∙ ap (count_by (λ piece. is_some piece.value)) c.pieces-pieces.ensures.pieces
    ∙ valued_line_count-pieces pieces horizon c.pieces-pieces.ensures.chain nothing ∙ ap (λ vs. valued_line_count vs horizon) same
