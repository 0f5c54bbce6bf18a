use Rattle.std.proofs.Common.{◌∙◌, sym, ap, position}
use Rattle.std.specs.Str.{bytes_eq}
use Rattle.graphite_props.proofs.ListLemmas.{position-map}
use Rattle.graphite_graph.proofs.hashed.HashedNames.number_of.Goals as goal

pub returns-in-Some-clause-number : goal.returns-in-Some-clause-number
returns-in-Some-clause-number c =
    c.in-Some.ensures.index ∙ sym (position-map (bytes_eq c.args.name.now) (λ key. key.now) c.self.inside.set.keys)
    ∙ ap (position (bytes_eq c.args.name.now)) c.self.view_is

pub returns-in-None-clause-number : goal.returns-in-None-clause-number
returns-in-None-clause-number c =
    c.in-None.ensures.index ∙ sym (position-map (bytes_eq c.args.name.now) (λ key. key.now) c.self.inside.set.keys)
    ∙ ap (position (bytes_eq c.args.name.now)) c.self.view_is
