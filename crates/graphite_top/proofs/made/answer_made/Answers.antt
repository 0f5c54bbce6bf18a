use Rattle.std.proofs.Common.{◌≡◌, sym, subst, ◌∙◌, Some, length}
use Rattle.graphite_gen.specs.Made.{IsRecipe}
use Rattle.graphite_words.specs.Query.{plain_made}
use Rattle.graphite_top.specs.Call.{Writes}
use Rattle.graphite_top.specs.Output.{made_output, made_text, recipe_of, CanBeRefused}
use Rattle.graphite_top.proofs.CallLemmas.{Writes-nothing}
use Rattle.graphite_top.proofs.MadeLemmas.{none_there, same_output, wants}
use Rattle.graphite_top.proofs.made.answer_made.Goals as goal

pub returns-in-Ok-query_on_made-clause-query_refused : goal.returns-in-Ok-query_on_made-clause-query_refused
returns-in-Ok-query_on_made-clause-query_refused g c = λ refused.
    let made = plain_made c.args.made in
    let is : IsRecipe (recipe_of made) = record {
      vertices = c.args.made.few.0;
      edges = c.args.made.few.1;
      some = c.args.made.in_time.0;
      last = c.args.made.in_time.1;
      has_ends = c.args.made.has_ends;
    } in
    let asked = c.in-Ok-query_on_made.ensures in
    let text : c.deref.result.now ≡ made_text made = c.deref.ensures.value ∙ c.in-Ok.ensures.text in
    let long : c.len.result ≡ length c.deref.result.now = c.len.ensures ∙ sym c.deref.ensures.len in
    let written = subst (λ output. Writes c.answer_text.result output (g.K.Sink.written c.args.sink.now) (g.K.Sink.written c.answer_text.new.sink) (g.K.Sink.faults c.args.sink.now) (g.K.Sink.faults c.answer_text.new.sink))
    (same_output made _ _ _ text long asked) c.answer_text.ensures.writes in
    (none_there c.answer_text.result _ _ _ _ made is written refused, wants made c.len.result (subst (λ query. CanBeRefused (Some query)) asked (c.answer_text.ensures.query_refused refused)))

pub returns-clause-writes : goal.returns-clause-writes
returns-clause-writes g c = Writes-nothing (made_output (plain_made c.args.made)) (g.K.Sink.written c.args.sink.now) (g.K.Sink.faults c.args.sink.now)
