use Rattle.std.proofs.Common.{◌∙◌, sym, ap}
use Rattle.std.proofs.lemmas.Bool.{cond-true}
use Rattle.graphite_time.specs.Interval.{holds}
use Rattle.graphite_time.specs.Meet.{interval_between}
use Rattle.graphite_paths.proofs.best.rest_from.Goals as goal

pub returns : goal.returns
returns c =
    c.new.ensures.between
    ∙ ap (interval_between c.args.t) c.b.ensures.end
    ∙ sym (cond-true (holds c.args.span c.args.t) _ _ (sym c.holds.ensures ∙ c.if-not-holds.false))
