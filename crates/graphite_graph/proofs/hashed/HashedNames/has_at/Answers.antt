use Rattle.std.proofs.Common.{◌∙◌, ◌≡◌, Some, ap, sym, refl, subst, length, position, slice_get}
use Rattle.std.specs.Str.{bytes_eq}
use Rattle.std.proofs.lemmas.Bool.{ltb-true}
use Rattle.std.proofs.lemmas.Option.{slice_get_read}
use Rattle.graphite_props.proofs.ListLemmas.{position-map}
use Rattle.graphite_graph.proofs.NameLemmas.{place_of_name}
use Rattle.graphite_graph.proofs.hashed.HashedNames.has_at.Goals as goal

pub returns-in-Some-clause-place : goal.returns-in-Some-clause-place
returns-in-Some-clause-place c same =
    let is_this = bytes_eq c.args.name.now in
    let lookup = c.in-Some.ensures.lookup in
    let read = slice_get_read c.as_slice.result.now (length c.as_slice.result.now) c.args.number c.in-Some.stored.now refl (ltb-true _ _ (sym lookup.0)) lookup.1 in
    let found = subst (λ keys. slice_get keys c.args.number ≡ Some c.in-Some.stored.now) c.as_slice.ensures.keys read in
    sym (ap (position is_this) c.self.view_is)
    ∙ position-map is_this (λ key. key.now) c.self.inside.set.keys
    ∙ place_of_name (λ key. key.now) c.args.name.now c.self.inside.set.keys c.args.number c.in-Some.stored.now c.as_slice.ensures.unique found (sym c.eq.ensures ∙ same)
