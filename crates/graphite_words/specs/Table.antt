-- The table of programs.
use Rattle.std.specs.Prelude.{ℕ, Bool, ◌||◌, true, false, List, [], ◌∷◌, codes, find, Option, Some, None}
use Rattle.std.specs.Str.{bytes_eq}
use Rattle.graphite_words.specs.declared.table.Command.{Command}
use Rattle.graphite_words.specs.declared.table.Command.TheVariants.{Degree, Bfs, Components, Max, Distance, Rank, Reach, Earliest, Cheapest, Fastest, Latest, Show, Made}

-- A row of the table: the word that names the program; whether it starts from a vertex, whose name has to be given;
-- whether it leads to a vertex, whose name has to be given; whether it reads a property, whose key has to be given;
-- whether it may be given a window of instants, by the first one and the end; whether that end has to be given; whether it
-- may be given the number of supersteps allowed; whether it may be told what to report, by a kind of report or an instant;
-- whether it may be told to report paths, of all vertices by the kind of report or of one by its name; whether it makes its
-- graph from a number, of which the seed, the vertices, the edges, the horizon and the program to run on it have to be given;
-- and how many supersteps are allowed where that is not given: none stands for one more than the vertices have lifespans.
pub record PlainRow : Type 0 where
  pub word : List ℕ
  pub wants_source : Bool
  pub wants_target : Bool
  pub wants_key : Bool
  pub takes_window : Bool
  pub wants_until : Bool
  pub takes_steps : Bool
  pub takes_report : Bool
  pub takes_paths : Bool
  pub makes : Bool
  pub usual_steps : Option ℕ

-- the name of a vertex has to be given
abbrev pub wants_vertex : PlainRow → Bool
wants_vertex row = row.wants_source || row.wants_target

-- a program that takes no option
abbrev pub row_named : (word : List ℕ) → PlainRow
row_named word = record {
  word = word;
  wants_source = false;
  wants_target = false;
  wants_key = false;
  takes_window = false;
  wants_until = false;
  takes_steps = false;
  takes_report = false;
  takes_paths = false;
  makes = false;
  usual_steps = None;
}

-- one that may be given a number of supersteps, and told what to report
abbrev pub row_with_steps : (word : List ℕ) → PlainRow
row_with_steps word = record (row_named word) { takes_steps = true; takes_report = true }

-- and a window besides: a program of journeys, which alone have paths
abbrev pub row_with_window : (word : List ℕ) → PlainRow
row_with_window word = record (row_with_steps word) { takes_window = true; takes_paths = true }

-- the table of programs
abbrev pub row_of : Command → PlainRow
row_of Degree = record (row_named (codes "degree")) { takes_report = true }
row_of Bfs = record (row_with_steps (codes "bfs")) { wants_source = true }
row_of Components = row_with_steps (codes "components")
row_of Max = record (row_with_steps (codes "max")) { wants_key = true }
row_of Distance = record (row_with_steps (codes "distance")) { wants_source = true }
row_of Rank = record (row_with_steps (codes "rank")) { usual_steps = Some 30 }
row_of Reach = record (row_with_window (codes "reach")) { wants_source = true }
row_of Earliest = record (row_with_window (codes "earliest")) { wants_source = true }
row_of Cheapest = record (row_with_window (codes "cheapest")) { wants_source = true }
row_of Fastest = record (row_with_window (codes "fastest")) { wants_source = true; wants_until = true }
row_of Latest = record (row_with_window (codes "latest")) { wants_target = true }
row_of Show = row_named (codes "show")
row_of Made = record (row_named (codes "made")) { makes = true }

abbrev pub commands : List Command
commands = Degree ∷ Bfs ∷ Components ∷ Max ∷ Distance ∷ Rank ∷ Reach ∷ Earliest ∷ Cheapest ∷ Fastest ∷ Latest ∷ Show ∷ Made ∷ []

-- the program that a word names
abbrev pub command_of : List ℕ → Option Command
command_of word = find (λ command. bytes_eq (row_of command).word word) commands
