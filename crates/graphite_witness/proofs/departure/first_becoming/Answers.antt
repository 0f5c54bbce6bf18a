-- The first piece that fits says the first instant.
use Rattle.std.proofs.Common.{◌≡◌, ◌∙◌, sym, ap, max, Some, option_map, rules, tests}
use Rattle.std.proofs.lemmas.Iterator.{YieldsList-from_slice}
use Rattle.std.proofs.lemmas.Iterator.Search.{find_from_yields_List}
use Rattle.graphite_time.specs.Interval.{start_of}
use Rattle.graphite_api.specs.TableHops.{hop_along}
use Rattle.graphite_witness.specs.Ends.{becomes}
use Rattle.graphite_witness.proofs.DepartureLemmas.{first_common, IsFirst-becoming}
use Rattle.graphite_witness.proofs.departure.first_becoming.Goals as goal

pub returns-in_err-piece : goal.returns-in_err-piece
returns-in_err-piece c =
    let kept = c.pieces_within.ensures in
    let found = find_from_yields_List (λ piece. becomes c.args.kind c.args.value (hop_along c.args.arc.now 0) piece.value) _ _ c.find.result c.find.ensures.ran (YieldsList-from_slice c.pieces_within.result.now cc) (λ x b q k. search (rules, tests)) in
    IsFirst-becoming c.args.kind c.args.value c.args.arc.now c.args.over c.args.pieces.now c.pieces_within.result.now _ _ c.requires.kind kept.chain kept.values kept.meet found
    (c.from_residual.ensures ∙ sym (ap (λ o. option_map (first_common c.args.over) (option_map (λ y. y.now) o)) c.in_err-piece.was))

pub returns : goal.returns
returns c =
    let kept = c.pieces_within.ensures in
    let found = find_from_yields_List (λ piece. becomes c.args.kind c.args.value (hop_along c.args.arc.now 0) piece.value) _ _ c.find.result c.find.ensures.ran (YieldsList-from_slice c.pieces_within.result.now cc) (λ x b q k. search (rules, tests)) in
    let at : c.max.result ≡ max (start_of c.in_ok-piece.piece.now.over) (start_of c.args.over) = cc (c.max.ensures, c.a.ensures.start, c.a-2.ensures.start) in
    IsFirst-becoming c.args.kind c.args.value c.args.arc.now c.args.over c.args.pieces.now c.pieces_within.result.now _ (Some c.max.result) c.requires.kind kept.chain kept.values kept.meet found
    (ap Some at ∙ sym (ap (λ o. option_map (first_common c.args.over) (option_map (λ y. y.now) o)) c.in_ok-piece.was))
