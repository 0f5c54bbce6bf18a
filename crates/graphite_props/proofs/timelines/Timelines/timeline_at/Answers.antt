use Rattle.std.proofs.Common.{◌∙◌, ap, sym, is_some, map}
use Rattle.std.specs.List.{position_or_len}
use Rattle.std.specs.Str.{bytes_eq}
use Rattle.graphite_text.specs.Graph.{property_at}
use Rattle.graphite_props.specs.Properties.{has_property, keys_of}
use Rattle.graphite_props.specs.Store.{timeline_value}
use Rattle.graphite_props.specs.Places.{timelines_in}
use Rattle.graphite_props.proofs.StoreLemmas.{is_some-copied, copied-values}
use Rattle.graphite_props.proofs.TimelineLemmas.{timeline-at}
use Rattle.graphite_props.proofs.timelines.Timelines.timeline_at.Goals as goal

pub returns-clause-known : goal.returns-clause-known
returns-clause-known c key is =
    let keys = map (λ key. key.now) c.self.inside.keys.keys in
    let is_number = is ∙ sym (ap (position_or_len (bytes_eq key)) (c.self.invariant.timelines.keys_are ∙ ap keys_of c.self.view_is)) in
    is_some-copied c.timeline.result
    ∙ ap is_some (c.timeline.ensures ∙ ap (λ rows. timelines_in rows c.self.inside.places (c.args.owner, c.args.number)) c.deref.ensures.value)
    ∙ ap is_some (ap (λ n. timelines_in c.self.inside.rows.items c.self.inside.places (c.args.owner, n)) is_number)
    ∙ ap is_some (sym (timeline-at keys key _ (timelines_in c.self.inside.rows.items c.self.inside.places) c.self.invariant.timelines c.args.owner))
    ∙ (c.self.invariant.timelines.each c.args.owner key).known
    ∙ ap (λ ps. has_property ps c.args.owner key) c.self.view_is

pub returns-clause-values : goal.returns-clause-values
returns-clause-values c key is =
    let keys = map (λ key. key.now) c.self.inside.keys.keys in
    let is_number = is ∙ sym (ap (position_or_len (bytes_eq key)) (c.self.invariant.timelines.keys_are ∙ ap keys_of c.self.view_is)) in
    copied-values c.timeline.result _ _ (c.timeline.ensures ∙ ap (λ rows. timelines_in rows c.self.inside.places (c.args.owner, c.args.number)) c.deref.ensures.value) (λ t.
    ap (λ n. timeline_value (timelines_in c.self.inside.rows.items c.self.inside.places (c.args.owner, n)) t) is_number
    ∙ ap (λ timeline. timeline_value timeline t) (sym (timeline-at keys key _ (timelines_in c.self.inside.rows.items c.self.inside.places) c.self.invariant.timelines c.args.owner))
    ∙ (c.self.invariant.timelines.each c.args.owner key).values t
    ∙ ap (λ ps. property_at ps c.args.owner key t) c.self.view_is)
