-- The notes so far are added.
use Rattle.std.proofs.Common.{◌≡◌, ◌≤◌, ◌*◌, ◌^◌, sum, take}
use Rattle.graphite_snap.proofs.rank.sum_of.Given as goal

abbrev pub invariant-loop-note : goal.invariant-loop-note
invariant-loop-note l = record {
  sum : l.total ≡ sum (take l.note-index l.notes);
  below : l.total ≤ l.note-index * 2 ^ 32;
}
