-- The answer to the words that are given, and what stands where they find no memory.
use Rattle.std.proofs.Common.{◌≡◌, map, string_bytes, refl, ap, subst, ◌∙◌, arith}
use Rattle.std.specs.Vec.Iter.{into_iter_items}
use Rattle.graphite_top.proofs.CallLemmas.{unwritten}
use Rattle.graphite_top.specs.Output.{ReadsSource}
use Rattle.graphite_words.specs.Words.{query_of}
use Rattle.graphite.specs.Served.{IsAnswered, words_of}
use Rattle.graphite.proofs.answer.Goals as goal

pub returns-in-Ok-clause-answered : goal.returns-in-Ok-clause-answered
returns-in-Ok-clause-answered g c =
    subst (λ words. IsAnswered words c.run.result (g.S.Source.left c.args.source.now) (g.S.Source.left c.run.new.source) (g.K.Sink.written c.args.sink.now) (g.K.Sink.written c.run.new.sink)
    (g.S.Source.faults c.args.source.now) (g.S.Source.faults c.run.new.source) (g.K.Sink.faults c.args.sink.now) (g.K.Sink.faults c.run.new.sink))
    (ap (map string_bytes) (c.deref.ensures.value ∙ c.in-Ok.ensures))
    (record {
      answer = c.run.ensures.answer;
      complete = c.run.ensures.complete;
      read_fault = c.run.ensures.read_fault;
      nothing_written = c.run.ensures.nothing_written;
      write_fault = c.run.ensures.write_fault;
      words_refused = c.run.ensures.words_refused;
      text_refused = c.run.ensures.text_refused;
      query_refused = c.run.ensures.query_refused;
      budget = c.run.ensures.budget;
      emptied = c.run.ensures.emptied;
      later = c.run.ensures.later;
    })

pub returns-in-Err-clause-answered : goal.returns-in-Err-clause-answered
returns-in-Err-clause-answered g c = record {
  answer = unwritten (words_of (into_iter_items c.args.given)) (g.S.Source.left c.args.source.now) (g.K.Sink.written c.args.sink.now);
  complete = λ read written memory. absurd (memory refl);
  read_fault = λ e. cc;
  nothing_written = λ e. cc;
  write_fault = λ e. cc;
  words_refused = λ e. cc;
  text_refused = λ e. cc;
  query_refused = λ e. cc;
  budget = λ e. cc;
  emptied = λ _. tt;
  later = (omega arith, omega arith);
}

pub returns-in-Ok-clause-untouched : goal.returns-in-Ok-clause-untouched
returns-in-Ok-clause-untouched g c =
    subst (λ words. (ReadsSource (query_of words) → ⊥) → c.run.new.source ≡ c.args.source.now)
    (ap (map string_bytes) (c.deref.ensures.value ∙ c.in-Ok.ensures)) c.run.ensures.untouched
