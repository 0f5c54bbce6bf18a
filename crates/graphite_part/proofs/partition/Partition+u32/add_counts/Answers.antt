-- What is counted by starts and ends is counted by intervals.
use Rattle.std.proofs.Common.{◌+◌, ◌^◌, ◌<◌, length}
use Rattle.graphite_part.proofs.PiecesLemmas.{All-from_values}
use Rattle.graphite_part.proofs.CountLemmas.{covers-swept, fit_open, counted-seen}
use Rattle.graphite_part.proofs.partition.Partition+u32.add_counts.Goals as goal

pub counted_pieces-requires-clause-swept : goal.counted_pieces-requires-clause-swept
counted_pieces-requires-clause-swept c =
    rw (c.deref.ensures.value, c.deref-2.ensures.value) (covers-swept c.args.covers.now c.in_ok-starts.starts.items c.in_ok-ends.ends.items c.in_ok-starts.ensures.starts c.in_ok-starts.ensures.rise c.in_ok-ends.ensures.ends c.in_ok-ends.ensures.rise).0

pub counted_pieces-requires-clause-fit : goal.counted_pieces-requires-clause-fit
counted_pieces-requires-clause-fit c =
    let same = (covers-swept c.args.covers.now c.in_ok-starts.starts.items c.in_ok-ends.ends.items c.in_ok-starts.ensures.starts c.in_ok-starts.ensures.rise c.in_ok-ends.ensures.ends c.in_ok-ends.ensures.rise).1 in
    rw (c.deref.ensures.value, c.deref-2.ensures.value, c.pieces-2.ensures.pieces) (fit_open c.args.self.now c.args.covers.now c.in_ok-starts.starts.items c.in_ok-ends.ends.items same (All-from_values (λ n. n + length c.args.covers.now < 2 ^ 32) c.args.self.now c.pieces-2.ensures.chain c.requires))

pub returns-clause-ok : goal.returns-clause-ok
returns-clause-ok c =
    let same = (covers-swept c.args.covers.now c.in_ok-starts.starts.items c.in_ok-ends.ends.items c.in_ok-starts.ensures.starts c.in_ok-starts.ensures.rise c.in_ok-ends.ensures.ends c.in_ok-ends.ensures.rise).1 in
    counted-seen c.args.self.now c.pieces-2.result.now c.args.covers.now c.in_ok-starts.starts.items c.deref.result.now c.in_ok-ends.ends.items c.deref-2.result.now c.in_ok-counted.counted.items c.pieces-2.ensures.pieces c.deref.ensures.value c.deref-2.ensures.value same c.in_ok-counted.ensures
