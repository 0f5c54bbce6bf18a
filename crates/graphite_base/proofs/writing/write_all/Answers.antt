-- One write more, of the bytes that are still to be written.
use Rattle.std.proofs.Common.{◌-◌, ◌≤◌, ◌∙◌, length, arith}
use Rattle.graphite_base.proofs.KnownLemmas.{Appends-more, length-rest}
use Rattle.graphite_base.proofs.writing.write_all.Goals as goal

pub loop-done-preserved : goal.loop-done-preserved
loop-done-preserved g c =
    let within : c.in-Took.count ≤ length c.args.piece.now - c.loop-done.done
    = omega (arith, length-rest c.loop-done.done c.args.piece.now, c.in-Took.ensures.fits) in
    record {
      within = omega arith;
      written = Appends-more _ _ _ c.loop-done.done c.in-Took.count c.args.piece.now c.loop-done.invariant.written c.in-Took.ensures.moves;
      faults = c.in-Took.ensures.counted ∙ c.loop-done.invariant.faults;
      untouched = λ none. absurd (omega (arith, none, c.in-Took.ensures.fits));
    }
