-- Each turn mirrors the next piece from the end.
use Rattle.std.proofs.Common.{◌≤◌, sym, ap, subst, length, reverse, arith}
use Rattle.std.proofs.lemmas.Iterator.Adapters.{YieldsList-from_rev_slice}
use Rattle.std.proofs.lemmas.Iterator.Consumers.{YieldsList-turn, YieldsList-end}
use Rattle.graphite_time.specs.Interval.{end_of}
use Rattle.graphite_time.proofs.MirrorLemmas.{All-reverse, mapped_more, mapped_all}
use Rattle.graphite_part.specs.Pieces.{value_at, AreRuns}
use Rattle.graphite_part.specs.Calls.{mirrored_piece, mirrored_values}
use Rattle.graphite_part.proofs.MirrorLemmas.{All-from_last_end, AreRuns-mirrored}
use Rattle.graphite_part.proofs.mirror.mirrored_pieces.Goals as goal

pub mirror-over-requires-clause-within : goal.mirror-over-requires-clause-within
mirror-over-requires-clause-within g c =
    let turn = YieldsList-turn (YieldsList-from_rev_slice c.args.pieces.now cc) c.loop-piece.yielded _ c.loop-piece.yielded_by _ _ c.in-Some.piece c.in-Some.is c.next.ensures.steps in
    subst (λ x. end_of x.over ≤ c.args.h) (sym turn.1) (All-reverse (λ piece. end_of piece.over ≤ c.args.h) c.args.pieces.now (All-from_last_end c.args.h c.args.pieces.now c.requires.chain c.requires.within) (length c.loop-piece.yielded) _ turn.0)

pub loop-piece-preserved : goal.loop-piece-preserved
loop-piece-preserved g c =
    let turn = YieldsList-turn (YieldsList-from_rev_slice c.args.pieces.now cc) c.loop-piece.yielded _ c.loop-piece.yielded_by _ _ c.in-Some.piece c.in-Some.is c.next.ensures.steps in
    mapped_more (mirrored_piece c.args.h) (reverse c.args.pieces.now) c.loop-piece.yielded c.in-Some.piece c.in-Some.piece.now c.loop-piece.out.items c.push.new.self.items (record { over = c.mirror-over.result; value = c.in-Some.piece.now.value }) turn.0 turn.1 (ap (λ over. record { over = over; value = c.in-Some.piece.now.value }) c.mirror-over.ensures.mirror) c.loop-piece.invariant c.in_ok-push.ensures.items

pub returns : goal.returns
returns g c =
    let turn = YieldsList-end (YieldsList-from_rev_slice c.args.pieces.now cc) c.loop-piece.yielded _ c.loop-piece.yielded_by _ _ c.in-None.is c.next.ensures.steps in
    let all = mapped_all (mirrored_piece c.args.h) (reverse c.args.pieces.now) (length c.loop-piece.yielded) c.loop-piece.out.items (omega (arith, turn.1)) c.loop-piece.invariant in
    subst (AreRuns (mirrored_values (value_at c.args.pieces.now) c.args.h)) (sym all) (AreRuns-mirrored c.args.h c.requires.last c.args.pieces.now c.requires.chain c.requires.within)
