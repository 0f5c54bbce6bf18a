-- There is room for two counts.
use Rattle.std.proofs.Common.{◌+◌, ◌^◌, ◌<◌, lit<}
use Rattle.graphite_part.proofs.CopyLemmas.{IfSome-life}
use Rattle.graphite_engine_tests.proofs.partitions.counts_are_added.Goals as goal

pub add_counts-requires : goal.add_counts-requires
add_counts-requires g c = IfSome-life (λ n. n + 2 < 2 ^ 32) _ 0 c.in_ok-partition.partition c.in_ok-partition.ensures (lit< tt)
