use Rattle.std.proofs.Common.{map, string_bytes}
use Rattle.graphite_top.proofs.CallLemmas.{unwritten}
use Rattle.graphite_top.proofs.call.run.Goals as goal

pub returns-in-Err-NoMemory-clause-answer : goal.returns-in-Err-NoMemory-clause-answer
returns-in-Err-NoMemory-clause-answer g c =
    unwritten (map string_bytes c.args.words.now) (g.S.Source.left c.args.source.now) (g.K.Sink.written c.args.sink.now)
