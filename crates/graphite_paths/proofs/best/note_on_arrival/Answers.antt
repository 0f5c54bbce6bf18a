use Rattle.std.proofs.Common.{◌∙◌, sym}
use Rattle.graphite_time.specs.Interval.{start_of}
use Rattle.graphite_paths.proofs.NextLemmas.{arrives}
use Rattle.graphite_paths.proofs.best.note_on_arrival.Goals as goal

pub returns : goal.returns
returns c =
    let arc = c.args.arc.now in
    arrives arc.stay c.in_ok-rest.rest c.args.note c.a.result c.from.result (start_of c.args.over) arc.time c.a.ensures.start c.from.ensures
    (sym c.rest_from.ensures ∙ c.in_ok-rest.was)
