use Rattle.std.proofs.Common.{refl, subst, sym, []}
use Rattle.graphite_part.specs.Pieces.{AreRuns, painted, value_at}
use Rattle.graphite_props.proofs.hashed.timeline_of.Goals as goal

pub returns : goal.returns
returns c =
    subst (AreRuns (painted (value_at []) c.args.over c.args.value)) (sym c.one.ensures) (record {
      in_order = (tt, tt);
      values = λ t. refl;
    })
