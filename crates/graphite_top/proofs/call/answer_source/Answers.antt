use Rattle.std.proofs.Common.{Err, ap, sym, subst, ◌∙◌}
use Rattle.graphite_base.specs.Known.{IsWhole}
use Rattle.graphite_words.specs.Query.{plain_query}
use Rattle.graphite_top.specs.Answer.{text_refusal}
use Rattle.graphite_top.specs.Output.{Known, text_output}
use Rattle.graphite_top.specs.Call.{Answers, Gives}
use Rattle.graphite_top.proofs.AcceptedLemmas.{words_accepted}
use Rattle.graphite_top.proofs.CallLemmas.{for_too_long, for_whole, Answers-written, Gives-written}
use Rattle.graphite_top.proofs.call.answer_source.Goals as goal

pub returns-in-Err-TooLong-clause-answer : goal.returns-in-Err-TooLong-clause-answer
returns-in-Err-TooLong-clause-answer g c =
    let took = c.read_text.ensures.too_long (c.in-Err-TooLong.is ∙ ap Err c.in-Err-TooLong.field-0-is) in
    for_too_long (λ output. Answers c.refuse_text.result output (g.K.Sink.written c.args.sink.now) (g.K.Sink.written c.refuse_text.new.sink))
    (plain_query c.args.query.now) (g.S.Source.left c.args.source.now) (g.S.Source.left c.read_text.new.source) took
    (Answers-written _ (Known (text_refusal 0 16)) _ _ _ _ c.refuse_text.ensures.writes)

pub returns-in-Err-TooLong-clause-complete : goal.returns-in-Err-TooLong-clause-complete
returns-in-Err-TooLong-clause-complete g c =
    let took = c.read_text.ensures.too_long (c.in-Err-TooLong.is ∙ ap Err c.in-Err-TooLong.field-0-is) in
    λ read written memory.
    for_too_long (λ output. Gives c.refuse_text.result output (g.K.Sink.written c.args.sink.now) (g.K.Sink.written c.refuse_text.new.sink))
    (plain_query c.args.query.now) (g.S.Source.left c.args.source.now) (g.S.Source.left c.read_text.new.source) took
    (Gives-written _ (Known (text_refusal 0 16)) _ _ _ _ written memory c.refuse_text.ensures.writes)

pub returns-in-Ok-clause-answer : goal.returns-in-Ok-clause-answer
returns-in-Ok-clause-answer g c =
    let whole = subst (IsWhole (g.S.Source.left c.args.source.now) (g.S.Source.left c.read_text.new.source)) (sym c.deref.ensures.value) c.in-Ok.ensures.whole in
    for_whole (λ output. Answers c.answer_text.result output (g.K.Sink.written c.args.sink.now) (g.K.Sink.written c.answer_text.new.sink))
    (plain_query c.args.query.now) (g.S.Source.left c.args.source.now) (g.S.Source.left c.read_text.new.source) c.deref.result.now whole
    (Answers-written _ (text_output (plain_query c.args.query.now) c.deref.result.now) _ _ _ _ c.answer_text.ensures.writes)

pub returns-in-Ok-clause-complete : goal.returns-in-Ok-clause-complete
returns-in-Ok-clause-complete g c =
    let whole = subst (IsWhole (g.S.Source.left c.args.source.now) (g.S.Source.left c.read_text.new.source)) (sym c.deref.ensures.value) c.in-Ok.ensures.whole in
    λ read written memory.
    for_whole (λ output. Gives c.answer_text.result output (g.K.Sink.written c.args.sink.now) (g.K.Sink.written c.answer_text.new.sink))
    (plain_query c.args.query.now) (g.S.Source.left c.args.source.now) (g.S.Source.left c.read_text.new.source) c.deref.result.now whole
    (Gives-written _ (text_output (plain_query c.args.query.now) c.deref.result.now) _ _ _ _ written memory c.answer_text.ensures.writes)

pub returns-in-Ok-clause-words_accepted : goal.returns-in-Ok-clause-words_accepted
returns-in-Ok-clause-words_accepted g c =
    words_accepted c.answer_text.result (g.K.Sink.written c.args.sink.now) (g.K.Sink.written c.answer_text.new.sink) (g.K.Sink.faults c.args.sink.now) (g.K.Sink.faults c.answer_text.new.sink)
    (plain_query c.args.query.now) c.deref.result.now c.answer_text.ensures.writes
