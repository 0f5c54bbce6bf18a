-- A new table keeps what a table keeps.
use Rattle.std.proofs.Common.{rules}
use Rattle.std.proofs.lemmas.List.Sorted.{All-permutation}
use Rattle.graphite_api.specs.Table.{IsArcOn}
use Rattle.graphite_api.proofs.table.ArcTable.new.Goals as goal

pub invariant_of-result : goal.invariant_of-result
invariant_of-result c = (
  record {
    few = c.requires.few;
    lives_are = search rules;
    arcs_on = All-permutation (IsArcOn c.args.lives.items) c.args.arcs.items c.sort_arcs.new.arcs.items c.sort_arcs.ensures.moved c.requires.arcs_on;
    costs = search rules;
    in_order = c.sort_arcs.ensures.in_order;
  },
  search rules,
)
