use Rattle.std.proofs.Common.{leb, rules, arith}
use Rattle.std.proofs.lemmas.Bool.{leb-true, leb-false}
use Rattle.std.proofs.lemmas.List.Sorted.{IsPartitionPoint-from_clause, IsPartitionedBy-leb}
use Rattle.graphite_props.specs.Taken.{code_of}
use Rattle.graphite_props.proofs.TakenLemmas.{rising-by}
use Rattle.graphite_props.proofs.taken.low_count.Goals as goal

pub returns : goal.returns
returns c =
    let parted = IsPartitionedBy-leb code_of c.args.rows.now c.args.most (rising-by c.args.rows.now c.requires) in
    let point = IsPartitionPoint-from_clause (λ y. leb (code_of y) c.args.most) _ _ c.partition_point.ensures.partitioned parted (λ a r q k. search rules) in
    record {
      within = c.partition_point.ensures.bound;
      low = λ k d within. leb-true _ _ (point.0 k d (omega arith) within);
      high = λ k d from within. leb-false _ _ (point.1 k d from within);
    }
