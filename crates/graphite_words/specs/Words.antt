-- What the words ask for. How a list of words is read is the published definition of `clap` for a simple command; what
-- the program asks of a list that is read stands here.
use Rattle.std.specs.Prelude.{◌≡◌, ◌≤◌, ◌-◌, ◌^◌, ℕ, ⊤, Bool, true, false, not, ◌||◌, ◌&&◌, ◌==◌, is_none, is_some, List, [], ◌∷◌, codes, Option, Some, None, option_map, option_and_then, unwrap_or, if◌then◌else◌}
use Rattle.std.specs.List.{list_any}
use Rattle.std.specs.Option.{option_or}
use Rattle.std.specs.Str.{bytes_eq}
use Rattle.clap.specs.Words.{App, Kinds, Rule, Text, fault_of, first_of, matches_of, new_app, new_rule, with_rule}
use Rattle.clap.specs.Words.{Row as Match}
use Rattle.clap.specs.declared.builder.action.ArgAction.TheVariants.{Set}
use Rattle.graphite_base.specs.Numbers.{number_in}
use Rattle.graphite_base.specs.declared.reading.TheConstants.{MADE_LIMIT}
use Rattle.graphite_api.specs.declared.TheConstants.{STEP_LIMIT}
use Rattle.graphite_time.specs.declared.TheConstants.{LAST}
use Rattle.graphite_words.specs.declared.table.Command.{Command}
use Rattle.graphite_words.specs.declared.query.Report.{Report}
use Rattle.graphite_words.specs.declared.query.Report.TheVariants.{Intervals, Paths, Sums, At, PathAt}
use Rattle.graphite_words.specs.Table.{PlainRow, command_of, row_of}

-- ---- how the words are read

-- an option that takes one value
abbrev pub option_rule : Text → Rule
option_rule name = record (new_rule name) { long = Some name; action = Some Set }

-- the command that `clap` reads: the word of a program, and options
unfoldable pub graphite_command : App
graphite_command =
    with_rule (with_rule (with_rule (with_rule (with_rule
    (with_rule (with_rule (with_rule (with_rule (with_rule (with_rule (with_rule (with_rule (with_rule (with_rule (new_app (codes "graphite"))
    (new_rule (codes "program")))
    (option_rule (codes "source")))
    (option_rule (codes "target")))
    (option_rule (codes "key")))
    (option_rule (codes "from")))
    (option_rule (codes "until")))
    (option_rule (codes "steps")))
    (option_rule (codes "report")))
    (option_rule (codes "at")))
    (option_rule (codes "path")))
    (option_rule (codes "seed")))
    (option_rule (codes "vertices")))
    (option_rule (codes "edges")))
    (option_rule (codes "horizon")))
    (option_rule (codes "of"))

-- `-` or `--`
abbrev pub is_dashes : Text → Bool
is_dashes word = bytes_eq word (codes "-") || bytes_eq word (codes "--")

-- what is found where no fault is
abbrev pub unless_faults : Kinds → List Match → Option (List Match)
unless_faults [] found = Some found
unless_faults (fault ∷ faults) found = None

-- what is found in a line, which begins with the name of the program; none where the line has a fault
unfoldable pub matches_in : List Text → Option (List Match)
matches_in line = unless_faults (fault_of graphite_command line) (matches_of graphite_command line)

-- the word of a program, and the value of each option
pub record PlainGiven : Type 0 where
  pub program : Option Text
  pub source : Option Text
  pub target : Option Text
  pub key : Option Text
  pub from : Option Text
  pub until : Option Text
  pub steps : Option Text
  pub report : Option Text
  pub at : Option Text
  pub path : Option Text
  pub seed : Option Text
  pub vertices : Option Text
  pub edges : Option Text
  pub horizon : Option Text
  pub of : Option Text

-- what the words give
abbrev pub given_in : List Match → PlainGiven
given_in found = record {
  program = first_of (codes "program") found;
  source = first_of (codes "source") found;
  target = first_of (codes "target") found;
  key = first_of (codes "key") found;
  from = first_of (codes "from") found;
  until = first_of (codes "until") found;
  steps = first_of (codes "steps") found;
  report = first_of (codes "report") found;
  at = first_of (codes "at") found;
  path = first_of (codes "path") found;
  seed = first_of (codes "seed") found;
  vertices = first_of (codes "vertices") found;
  edges = first_of (codes "edges") found;
  horizon = first_of (codes "horizon") found;
  of = first_of (codes "of") found;
}

-- ---- what is asked for

-- What a graph is made from: a seed, how many vertices and edges it has, its horizon, and the program to run on it.
pub record PlainMade : Type 0 where
  pub seed : ℕ
  pub vertices : ℕ
  pub edges : ℕ
  pub horizon : ℕ
  pub of : Command

-- The numbers are within their limits, there is a vertex wherever there is an edge, and the program has a report.
pub record CanBeMade (made : PlainMade) : Type 0 where
  pub seed : made.seed ≤ 2 ^ 64 - 1
  pub vertices : made.vertices ≤ MADE_LIMIT
  pub edges : made.edges ≤ MADE_LIMIT
  pub some : 1 ≤ made.horizon
  pub last : made.horizon ≤ LAST
  pub has_ends : made.vertices ≡ 0 → made.edges ≡ 0
  pub has_report : (row_of made.of).takes_report ≡ true

-- A program, with the options that it takes: the name of the vertex to start from or to lead to, the key of the property
-- to read, the window of instants from the first one to before its end, which is the horizon where none is given, the
-- number of supersteps allowed, what to report, the name of the vertex whose path is told, where one path is, and what the
-- graph is made from, where it is not read.
pub record PlainQuery : Type 0 where
  pub command : Command
  pub vertex : Option Text
  pub key : Option Text
  pub from : ℕ
  pub until : Option ℕ
  pub steps : Option ℕ
  pub report : Report
  pub told : Option Text
  pub made : Option PlainMade

-- an option is given exactly where it is wanted
abbrev pub is_as_wanted : Bool → Option Text → Bool
is_as_wanted wanted value = if wanted then is_some value else is_none value

-- an option is given where it is wanted, and maybe elsewhere
abbrev pub is_there : Bool → Option Text → Bool
is_there wanted value = if wanted then is_some value else true

-- an option is given only where it is taken
abbrev pub is_taken : Bool → Option Text → Bool
is_taken taken value = is_none value || taken

-- what a graph is made from is given exactly where it is made
abbrev pub has_numbers : PlainRow → PlainGiven → Bool
has_numbers row given = is_as_wanted row.makes given.seed && is_as_wanted row.makes given.vertices && is_as_wanted row.makes given.edges
    && is_as_wanted row.makes given.horizon && is_as_wanted row.makes given.of

-- a source, a target, a key and what a graph is made from are given exactly where they are wanted, and an end of the window
-- wherever one is wanted
abbrev pub has_wanted : PlainRow → PlainGiven → Bool
has_wanted row given = is_as_wanted row.wants_source given.source && is_as_wanted row.wants_target given.target
    && is_as_wanted row.wants_key given.key && is_there row.wants_until given.until && has_numbers row given

-- whether paths are to be told: of one vertex, or by the kind of report
abbrev pub names_paths : Option Text → Bool
names_paths None = false
names_paths (Some value) = bytes_eq value (codes "paths")

abbrev pub tells_paths : PlainGiven → Bool
tells_paths given = is_some given.path || names_paths given.report

-- the other options are given only where they are taken, and paths are told only where they are
abbrev pub has_only_taken : PlainRow → PlainGiven → Bool
has_only_taken row given = is_taken row.takes_window given.from && is_taken row.takes_window given.until
    && is_taken row.takes_steps given.steps && is_taken row.takes_report given.report && is_taken row.takes_report given.at
    && (row.takes_paths || not (tells_paths given))

-- each option that is wanted is given, and none that is not taken
abbrev pub takes : PlainRow → PlainGiven → Bool
takes row given = has_wanted row given && has_only_taken row given

-- the instant that a value says: a canonical decimal up to the last instant
abbrev pub instant_in : Text → Option ℕ
instant_in value = number_in LAST value

-- an instant, where it is given
abbrev pub instant_of : Option Text → Option (Option ℕ)
instant_of None = Some None
instant_of (Some value) = option_map Some (instant_in value)

-- the number of supersteps that a value says: a canonical decimal from 1 to the limit of supersteps
abbrev pub steps_in : Text → Option ℕ
steps_in value = option_and_then (λ n. if n == 0 then None else Some n) (number_in STEP_LIMIT value)

-- the number of supersteps allowed, where it is given
abbrev pub steps_of : Option Text → Option (Option ℕ)
steps_of None = Some None
steps_of (Some value) = option_map Some (steps_in value)

-- the kind of report that a value names
abbrev pub kind_in : Text → Option Report
kind_in value = if bytes_eq value (codes "intervals") then Some Intervals
    else (if bytes_eq value (codes "paths") then Some Paths
    else (if bytes_eq value (codes "sums") then Some Sums else None))

-- the report, by its kind or its instant, which are not both given; a vertex whose path is told is given with an instant alone
abbrev pub report_of : (kind instant path : Option Text) → Option Report
report_of None None None = Some Intervals
report_of (Some value) None None = kind_in value
report_of None (Some value) None = option_map At (instant_in value)
report_of None (Some value) (Some name) = option_map PathAt (instant_in value)
report_of kind instant path = None

-- the program to run on a made graph that a value names: one that has a report
abbrev pub of_in : Text → Option Command
of_in value = option_and_then (λ command. if (row_of command).takes_report then Some command else None) (command_of value)

-- the horizon that a value says: a canonical decimal from 1 to the last instant
abbrev pub horizon_in : Text → Option ℕ
horizon_in value = option_and_then (λ h. if h == 0 then None else Some h) (number_in LAST value)

-- where there is no vertex there is no edge
abbrev pub with_ends : PlainMade → Option PlainMade
with_ends made = if (made.vertices == 0) && not (made.edges == 0) then None else Some made

-- a report that tells paths
abbrev pub TellsPaths : Report → Type 0
TellsPaths Paths = ⊤
TellsPaths (PathAt t) = ⊤
TellsPaths report = ⊥

-- what is made of a value, where it has the form that it is to have
abbrev pub read_then : {X Y : Type 0} → Option X → (X → Option Y) → Option Y
read_then value make = option_and_then make value

-- what a graph is made from, where that is given
abbrev pub made_by : (seed vertices edges horizon of : Text) → Option PlainMade
made_by seed vertices edges horizon of =
    read_then (number_in (2 ^ 64 - 1) seed) (λ s.
    read_then (number_in MADE_LIMIT vertices) (λ v.
    read_then (number_in MADE_LIMIT edges) (λ e.
    read_then (horizon_in horizon) (λ h.
    read_then (of_in of) (λ command.
    with_ends (record { seed = s; vertices = v; edges = e; horizon = h; of = command }))))))

abbrev pub made_of : (seed vertices edges horizon of : Option Text) → Option (Option PlainMade)
made_of (Some seed) (Some vertices) (Some edges) (Some horizon) (Some of) = option_map Some (made_by seed vertices edges horizon of)
made_of seed vertices edges horizon of = Some None

-- a program with what is given, where its row takes that
abbrev pub query_with : Command → PlainGiven → Option PlainQuery
query_with command given = if takes (row_of command) given
    then read_then (instant_of given.from) (λ from.
    read_then (instant_of given.until) (λ until.
    read_then (steps_of given.steps) (λ steps.
    read_then (report_of given.report given.at given.path) (λ report.
    read_then (made_of given.seed given.vertices given.edges given.horizon given.of) (λ made. Some (record {
      command = command;
      vertex = option_or given.source given.target;
      key = given.key;
      from = unwrap_or from 0;
      until = until;
      steps = steps;
      report = report;
      told = given.path;
      made = made;
    }))))))
    else None

-- what is asked for by what is given
abbrev pub query_by : PlainGiven → Option PlainQuery
query_by given = option_and_then (λ command. query_with command given) (option_and_then command_of given.program)

-- what the words after the program's name ask for; none where they are refused
abbrev pub query_of : List Text → Option PlainQuery
query_of words = if list_any is_dashes words then None
    else option_and_then (λ found. query_by (given_in found)) (matches_in (codes "graphite" ∷ words))
