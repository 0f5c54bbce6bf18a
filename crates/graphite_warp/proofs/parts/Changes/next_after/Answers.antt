-- The first change past `at` bounds the stretch in which the notes are the same.
use Rattle.std.proofs.Common.{leb, rules, subst}
use Rattle.std.proofs.lemmas.List.Sorted.{IsPartitionPoint-from_clause, IsPartitionedBy-leb}
use Rattle.graphite_warp.specs.Sweep.{AreChanges}
use Rattle.graphite_warp.proofs.PartLemmas.{change-after, none-before, steady_before, real_at}
use Rattle.graphite_warp.proofs.parts.Changes.next_after.Goals as goal

pub returns-clause-after : goal.returns-clause-after
returns-clause-after g c =
    let changes = c.self.inside.instants.now in
    let point = IsPartitionPoint-from_clause (λ y. leb y c.args.at) _ _ c.partition_point-place.ensures.partitioned (IsPartitionedBy-leb (λ y. y) changes c.args.at c.self.invariant.rise) (λ a r q k. search rules) in
    change-after changes c.args.at c.args.until c.partition_point-place.result c.time_at.result point c.requires.order c.time_at.ensures

pub returns-clause-steady : goal.returns-clause-steady
returns-clause-steady g c =
    let changes = c.self.inside.instants.now in
    let point = IsPartitionPoint-from_clause (λ y. leb y c.args.at) _ _ c.partition_point-place.ensures.partitioned (IsPartitionedBy-leb (λ y. y) changes c.args.at c.self.invariant.rise) (λ a r q k. search rules) in
    let none = none-before changes c.args.at c.args.until c.partition_point-place.result c.time_at.result point c.self.invariant.rise c.time_at.ensures in
    λ t from until. steady_before g.M.Ord.cmp c.args.self.now changes (subst (λ ms. AreChanges g.M.Ord.cmp ms changes) c.self.view_is c.self.invariant) c.args.at c.time_at.result t none from until

pub returns-clause-real : goal.returns-clause-real
returns-clause-real g c =
    let changes = c.self.inside.instants.now in
    let point = IsPartitionPoint-from_clause (λ y. leb y c.args.at) _ _ c.partition_point-place.ensures.partitioned (IsPartitionedBy-leb (λ y. y) changes c.args.at c.self.invariant.rise) (λ a r q k. search rules) in
    let none = none-before changes c.args.at c.args.until c.partition_point-place.result c.time_at.result point c.self.invariant.rise c.time_at.ensures in
    let after = change-after changes c.args.at c.args.until c.partition_point-place.result c.time_at.result point c.requires.order c.time_at.ensures in
    λ early. real_at g.M.Ord.cmp c.args.self.now changes (subst (λ ms. AreChanges g.M.Ord.cmp ms changes) c.self.view_is c.self.invariant) c.args.at c.args.until c.partition_point-place.result c.time_at.result after none c.time_at.ensures early
