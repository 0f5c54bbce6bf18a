-- For proofs and private functions alone: what the code's rows and queries say.
use Rattle.std.specs.Prelude.{ℕ, Option, option_map}
use Rattle.graphite_words.specs.declared.given.Given.{Given}
use Rattle.graphite_words.specs.declared.made.MadeAsk.{MadeAsk}
use Rattle.graphite_words.specs.declared.query.Query.{Query}
use Rattle.graphite_words.specs.declared.steps.Steps.{Steps}
use Rattle.graphite_words.specs.declared.table.Row.{Row}
use Rattle.graphite_words.specs.Table.{PlainRow}
use Rattle.graphite_words.specs.Words.{PlainGiven, PlainMade, PlainQuery}

-- the number of supersteps, where it is given
abbrev pub number_given : Option Steps → Option ℕ
number_given steps = option_map (λ steps. steps.number) steps

abbrev pub plain_row : Row → PlainRow
plain_row row = record {
  word = row.word.now;
  wants_source = row.wants_source;
  wants_target = row.wants_target;
  wants_key = row.wants_key;
  takes_window = row.takes_window;
  wants_until = row.wants_until;
  takes_steps = row.takes_steps;
  takes_report = row.takes_report;
  takes_paths = row.takes_paths;
  makes = row.makes;
  usual_steps = number_given row.usual_steps;
}

-- what the code has read of the words
abbrev pub plain_given : Given → PlainGiven
plain_given given = record {
  program = option_map (λ text. text.now) given.program;
  source = option_map (λ text. text.now) given.source;
  target = option_map (λ text. text.now) given.target;
  key = option_map (λ text. text.now) given.key;
  from = option_map (λ text. text.now) given.from;
  until = option_map (λ text. text.now) given.until;
  steps = option_map (λ text. text.now) given.steps;
  report = option_map (λ text. text.now) given.report;
  at = option_map (λ text. text.now) given.at;
  path = option_map (λ text. text.now) given.path;
  seed = option_map (λ text. text.now) given.seed;
  vertices = option_map (λ text. text.now) given.vertices;
  edges = option_map (λ text. text.now) given.edges;
  horizon = option_map (λ text. text.now) given.horizon;
  of = option_map (λ text. text.now) given.of;
}

-- what the code makes a graph from
abbrev pub plain_made : MadeAsk → PlainMade
plain_made made = record {
  seed = made.seed;
  vertices = made.vertices;
  edges = made.edges;
  horizon = made.horizon;
  of = made.of;
}

-- what a query of the code asks for
abbrev pub plain_query : Query → PlainQuery
plain_query query = record {
  command = query.command;
  vertex = query.vertex;
  key = query.key;
  from = query.from;
  until = query.until;
  steps = number_given query.steps;
  report = query.report;
  told = query.told;
  made = option_map plain_made query.made;
}
