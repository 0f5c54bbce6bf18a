-- What was told is sorted by the order of the plan.
use Rattle.std.proofs.Common.{◌≡◌, ◌∙◌, ap, sym, subst, ◌++◌, All, length, map}
use Rattle.std.proofs.lemmas.List.FromFn.{length-map-range_with_len}
use Rattle.std.specs.List.Sorted.{IsSorted}
use Rattle.graphite_warp.specs.Sorted.{sorted}
use Rattle.graphite_warp.proofs.SortedLemmas.{IsSorted-sorted}
use Rattle.graphite_api.specs.Snapshot.{link_of}
use Rattle.graphite_api.specs.Supersteps.{notes_to}
use Rattle.graphite_api.specs.Outcomes.{entry_of, list_of, IsTaken}
use Rattle.graphite_api.proofs.OutcomeLemmas.{empty, list_of-empty}
use Rattle.graphite_api.proofs.instant.groups_at.Goals as goal

pub deliver-requires : goal.deliver-requires
deliver-requires g c =
    let len : length c.in_ok-groups.groups ≡ length c.args.outcomes.now = ap length c.in_ok-groups.ensures ∙ length-map-range_with_len (λ _. empty) 0 (length c.args.outcomes.now) in
    subst (λ n. All (IsTaken c.args.now n) c.args.arcs.now) (sym len) c.requires

pub returns-clause-len : goal.returns-clause-len
returns-clause-len g c =
    let len : length c.in_ok-groups.groups ≡ length c.args.outcomes.now = ap length c.in_ok-groups.ensures ∙ length-map-range_with_len (λ _. empty) 0 (length c.args.outcomes.now) in
    c.sort.ensures.len ∙ c.deliver.ensures.len ∙ len

pub returns-clause-groups : goal.returns-clause-groups
returns-clause-groups g c =
    let plan = g.P.PointProgram.plan in
    λ v.
    let first = ap (λ groups. list_of groups v) c.in_ok-groups.ensures ∙ list_of-empty 0 (length c.args.outcomes.now) v in
    let told = c.in_ok-deliver.ensures.told v ∙ ap (λ ns. ns ++ notes_to plan (map link_of c.args.arcs.now) (entry_of c.args.outcomes.now) v) first in
    c.sort.ensures.sorted v ∙ ap (sorted g.P.Note.Ord.cmp) told ∙ ap (λ order. sorted order (notes_to plan (map link_of c.args.arcs.now) (entry_of c.args.outcomes.now) v)) (g.met.P.Program.order_is ∙ ap (λ rules. rules.order) g.met.P.PointProgram.rules_are)

pub returns-clause-rising : goal.returns-clause-rising
returns-clause-rising g c =
    λ v. subst (IsSorted g.P.Note.Ord.cmp) (sym (c.sort.ensures.sorted v)) (IsSorted-sorted g.P.Note.Ord.cmp g.met.P.Note.Ord.total (list_of c.deliver.new.groups v))
