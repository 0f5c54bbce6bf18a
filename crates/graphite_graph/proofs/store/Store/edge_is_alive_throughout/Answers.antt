use Rattle.std.proofs.Common.{◌∙◌, ap}
use Rattle.graphite_text.specs.Graph.{is_alive}
use Rattle.graphite_text.specs.Reading.{throughout}
use Rattle.graphite_text.specs.Spans.{as_span}
use Rattle.graphite_graph.proofs.LifeLemmas.{covers-throughout}
use Rattle.graphite_graph.proofs.store.Store.edge_is_alive_throughout.Goals as goal

pub returns : goal.returns
returns c =
    covers-throughout c.edge_life.result.now c.args.over c.covers.result c.covers.ensures
    ∙ ap (λ life. throughout (is_alive life) (as_span c.args.over)) c.edge_life.ensures.life
