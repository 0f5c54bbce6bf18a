use Rattle.std.proofs.Common.{◌∙◌, sym, ap, position, not, is_some}
use Rattle.std.specs.Str.{bytes_eq}
use Rattle.graphite_props.proofs.ListLemmas.{list_any-map}
use Rattle.graphite_graph.proofs.ListLemmas.{is_some-position}
use Rattle.graphite_graph.proofs.hashed.HashedNames.insert.Goals as goal

pub returns-clause-added : goal.returns-clause-added
returns-clause-added c =
    let is_this = bytes_eq c.args.name.now in
    let keys = c.self.inside.set.keys in
    c.in_ok-added.ensures.added
    ∙ ap not (sym (list_any-map is_this (λ key. key.now) keys) ∙ sym (is_some-position is_this _) ∙ ap (λ names. is_some (position is_this names)) c.self.view_is)
