use Rattle.std.proofs.Common.{ap, option_map}
use Rattle.graphite_words.specs.Query.{plain_made, plain_query}
use Rattle.graphite_top.specs.Call.{Answers}
use Rattle.graphite_top.specs.Output.{made_output}
use Rattle.graphite_top.proofs.CallLemmas.{for_made, Answers-written}
use Rattle.graphite_top.proofs.call.answer_query.Goals as goal

pub returns-in-Some-clause-answer : goal.returns-in-Some-clause-answer
returns-in-Some-clause-answer g c =
    for_made (λ output. Answers c.answer_made.result output (g.K.Sink.written c.args.sink.now) (g.K.Sink.written c.answer_made.new.sink))
    (plain_query c.args.query.now) (g.S.Source.left c.args.source.now) (plain_made c.in-Some.made) (ap (option_map plain_made) c.in-Some.is)
    (Answers-written _ (made_output (plain_made c.in-Some.made)) _ _ _ _ c.answer_made.ensures.writes)
