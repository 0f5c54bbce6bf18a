-- The pair of two pieces is written, and the one that ends first is left.
use Rattle.std.proofs.Common.{arith}
use Rattle.graphite_part.proofs.ZipLemmas.{next_start, HaveZipped-left, HaveZipped-right, zipped-runs}
use Rattle.graphite_part.proofs.zip.zipped_pieces.Goals as goal
use Rattle.graphite_part.proofs.zip.zipped_pieces.Goals.{then-loop-i-test+else-j-right, else-loop-i-test}

pub push_pair-requires-clause-later : goal.push_pair-requires-clause-later
push_pair-requires-clause-later g c =
    next_start c.args.left.now c.args.right.now c.loop-i.out.items c.loop-i.i c.loop-i.j c.index-left-i.result c.index-right-j.result c.requires.left c.requires.right c.loop-i-test.true c.if-j-right.true c.index-left-i.is c.index-right-j.is c.loop-i.invariant

pub loop-i-preserved-then-b : goal.loop-i-preserved-then-b
loop-i-preserved-then-b g c =
    HaveZipped-left c.args.left.now c.args.right.now c.loop-i.out.items c.push_pair.new.out.items c.loop-i.i c.loop-i.j c.index-left-i.result c.index-right-j.result c.requires.left c.requires.right c.loop-i-test.true c.if-j-right.true c.index-left-i.is c.index-right-j.is c.loop-i.invariant c.in_ok-push_pair.ensures (omega (arith, c.b.ensures.end, c.b-in-loop-i.ensures.end))

pub loop-i-preserved : goal.loop-i-preserved
loop-i-preserved g c =
    HaveZipped-right c.args.left.now c.args.right.now c.loop-i.out.items c.push_pair.new.out.items c.loop-i.i c.loop-i.j c.index-left-i.result c.index-right-j.result c.requires.left c.requires.right c.loop-i-test.true c.if-j-right.true c.index-left-i.is c.index-right-j.is c.loop-i.invariant c.in_ok-push_pair.ensures (omega (arith, c.b.ensures.end, c.b-in-loop-i.ensures.end))

pub returns : goal.returns
returns g c =
    zipped-runs c.args.left.now c.args.right.now c.loop-i.out.items c.loop-i.i c.loop-i.j c.requires.left c.requires.right c.loop-i.invariant
    (elim c.loop-i-test.branch [ then-loop-i-test+else-j-right w ↦ λ h. w.if-j-right.false | else-loop-i-test w ↦ λ h. absurd (omega (arith, w.loop-i-test.false)) ])
