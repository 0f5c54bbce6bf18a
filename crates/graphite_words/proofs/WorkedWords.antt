-- What some lists of words ask for, by the definition.
use Rattle.std.proofs.Common.{◌≡◌, [], ◌∷◌, Some, None, codes, refl}
use Rattle.clap.proofs.OnLiterals.{clap_on_literals}
use Rattle.graphite_words.specs.declared.query.Report.TheVariants.{Intervals, Paths, Sums, At, PathAt}
use Rattle.graphite_words.specs.declared.table.Command.TheVariants.{Degree, Bfs, Max, Reach, Earliest, Cheapest, Fastest, Latest, Made}
use Rattle.graphite_words.specs.Words.{graphite_command, matches_in, query_of}

option_with_its_value : query_of (codes "bfs" ∷ codes "--source=-x" ∷ []) ≡ Some (record { command = Bfs; vertex = Some (codes "-x"); key = None; from = 0; until = None; steps = None; report = Intervals; told = None; made = None })
unfolding graphite_command matches_in clap_on_literals
option_with_its_value = refl

options_in_any_order : query_of (codes "--report" ∷ codes "sums" ∷ codes "max" ∷ codes "--key" ∷ codes "load" ∷ [])
    ≡ Some (record { command = Max; vertex = None; key = Some (codes "load"); from = 0; until = None; steps = None; report = Sums; told = None; made = None })
unfolding graphite_command matches_in clap_on_literals
options_in_any_order = refl

last_instant : query_of (codes "degree" ∷ codes "--at" ∷ codes "17592186044416" ∷ [])
    ≡ Some (record { command = Degree; vertex = None; key = None; from = 0; until = None; steps = None; report = At 17592186044416; told = None; made = None })
unfolding graphite_command matches_in clap_on_literals
last_instant = refl

whole_window : query_of (codes "earliest" ∷ codes "--source" ∷ codes "a" ∷ [])
    ≡ Some (record { command = Earliest; vertex = Some (codes "a"); key = None; from = 0; until = None; steps = None; report = Intervals; told = None; made = None })
unfolding graphite_command matches_in clap_on_literals
whole_window = refl

window_given : query_of (codes "reach" ∷ codes "--source" ∷ codes "a" ∷ codes "--from" ∷ codes "4" ∷ codes "--until" ∷ codes "5" ∷ [])
    ≡ Some (record { command = Reach; vertex = Some (codes "a"); key = None; from = 4; until = Some 5; steps = None; report = Intervals; told = None; made = None })
unfolding graphite_command matches_in clap_on_literals
window_given = refl

journey_of_two_steps : query_of (codes "cheapest" ∷ codes "--source" ∷ codes "a" ∷ codes "--steps" ∷ codes "2" ∷ [])
    ≡ Some (record { command = Cheapest; vertex = Some (codes "a"); key = None; from = 0; until = None; steps = Some 2; report = Intervals; told = None; made = None })
unfolding graphite_command matches_in clap_on_literals
journey_of_two_steps = refl

arrival_at_an_instant : query_of (codes "earliest" ∷ codes "--source=a" ∷ codes "--at=3" ∷ [])
    ≡ Some (record { command = Earliest; vertex = Some (codes "a"); key = None; from = 0; until = None; steps = None; report = At 3; told = None; made = None })
unfolding graphite_command matches_in clap_on_literals
arrival_at_an_instant = refl

end_of_the_window : query_of (codes "fastest" ∷ codes "--source" ∷ codes "a" ∷ codes "--until" ∷ codes "5" ∷ [])
    ≡ Some (record { command = Fastest; vertex = Some (codes "a"); key = None; from = 0; until = Some 5; steps = None; report = Intervals; told = None; made = None })
unfolding graphite_command matches_in clap_on_literals
end_of_the_window = refl

whole_window_at_a_target : query_of (codes "latest" ∷ codes "--target" ∷ codes "c" ∷ [])
    ≡ Some (record { command = Latest; vertex = Some (codes "c"); key = None; from = 0; until = None; steps = None; report = Intervals; told = None; made = None })
unfolding graphite_command matches_in clap_on_literals
whole_window_at_a_target = refl

window_at_a_target : query_of (codes "latest" ∷ codes "--target=c" ∷ codes "--from" ∷ codes "1" ∷ codes "--until" ∷ codes "9" ∷ [])
    ≡ Some (record { command = Latest; vertex = Some (codes "c"); key = None; from = 1; until = Some 9; steps = None; report = Intervals; told = None; made = None })
unfolding graphite_command matches_in clap_on_literals
window_at_a_target = refl

given_twice : query_of (codes "bfs" ∷ codes "--source" ∷ codes "a" ∷ codes "--source" ∷ codes "b" ∷ []) ≡ None
unfolding graphite_command matches_in clap_on_literals
given_twice = refl

help : query_of (codes "--help" ∷ []) ≡ None
unfolding graphite_command matches_in clap_on_literals
help = refl

no_words : query_of [] ≡ None
unfolding graphite_command matches_in clap_on_literals
no_words = refl

two_programs : query_of (codes "degree" ∷ codes "rank" ∷ []) ≡ None
unfolding graphite_command matches_in clap_on_literals
two_programs = refl

padded_number : query_of (codes "rank" ∷ codes "--steps" ∷ codes "01" ∷ []) ≡ None
unfolding graphite_command matches_in clap_on_literals
padded_number = refl

no_source : query_of (codes "earliest" ∷ []) ≡ None
unfolding graphite_command matches_in clap_on_literals
no_source = refl

padded_instant : query_of (codes "earliest" ∷ codes "--source" ∷ codes "a" ∷ codes "--from" ∷ codes "01" ∷ []) ≡ None
unfolding graphite_command matches_in clap_on_literals
padded_instant = refl

end_past_the_last_instant : query_of (codes "earliest" ∷ codes "--source" ∷ codes "a" ∷ codes "--until" ∷ codes "17592186044417" ∷ []) ≡ None
unfolding graphite_command matches_in clap_on_literals
end_past_the_last_instant = refl

window_of_a_program_of_snapshots : query_of (codes "bfs" ∷ codes "--source" ∷ codes "a" ∷ codes "--from" ∷ codes "1" ∷ []) ≡ None
unfolding graphite_command matches_in clap_on_literals
window_of_a_program_of_snapshots = refl

end_without_a_source : query_of (codes "degree" ∷ codes "--until" ∷ codes "3" ∷ []) ≡ None
unfolding graphite_command matches_in clap_on_literals
end_without_a_source = refl

no_end : query_of (codes "fastest" ∷ codes "--source" ∷ codes "a" ∷ []) ≡ None
unfolding graphite_command matches_in clap_on_literals
no_end = refl

source_for_a_target : query_of (codes "latest" ∷ codes "--source" ∷ codes "c" ∷ []) ≡ None
unfolding graphite_command matches_in clap_on_literals
source_for_a_target = refl

target_for_a_source : query_of (codes "earliest" ∷ codes "--target" ∷ codes "a" ∷ []) ≡ None
unfolding graphite_command matches_in clap_on_literals
target_for_a_source = refl

no_target : query_of (codes "latest" ∷ []) ≡ None
unfolding graphite_command matches_in clap_on_literals
no_target = refl

every_path : query_of (codes "earliest" ∷ codes "--source" ∷ codes "a" ∷ codes "--report" ∷ codes "paths" ∷ [])
    ≡ Some (record { command = Earliest; vertex = Some (codes "a"); key = None; from = 0; until = None; steps = None; report = Paths; told = None; made = None })
unfolding graphite_command matches_in clap_on_literals
every_path = refl

one_path : query_of (codes "earliest" ∷ codes "--source" ∷ codes "a" ∷ codes "--path" ∷ codes "b" ∷ codes "--at" ∷ codes "3" ∷ [])
    ≡ Some (record { command = Earliest; vertex = Some (codes "a"); key = None; from = 0; until = None; steps = None; report = PathAt 3; told = Some (codes "b"); made = None })
unfolding graphite_command matches_in clap_on_literals
one_path = refl

paths_of_a_program_of_snapshots : query_of (codes "bfs" ∷ codes "--source" ∷ codes "a" ∷ codes "--report" ∷ codes "paths" ∷ []) ≡ None
unfolding graphite_command matches_in clap_on_literals
paths_of_a_program_of_snapshots = refl

one_path_of_a_program_of_snapshots : query_of (codes "degree" ∷ codes "--path" ∷ codes "b" ∷ codes "--at" ∷ codes "3" ∷ []) ≡ None
unfolding graphite_command matches_in clap_on_literals
one_path_of_a_program_of_snapshots = refl

path_without_an_instant : query_of (codes "earliest" ∷ codes "--source" ∷ codes "a" ∷ codes "--path" ∷ codes "b" ∷ []) ≡ None
unfolding graphite_command matches_in clap_on_literals
path_without_an_instant = refl

path_and_a_kind : query_of (codes "earliest" ∷ codes "--source" ∷ codes "a" ∷ codes "--path" ∷ codes "b" ∷ codes "--at" ∷ codes "3" ∷ codes "--report" ∷ codes "paths" ∷ []) ≡ None
unfolding graphite_command matches_in clap_on_literals
path_and_a_kind = refl

made_graph : query_of (codes "made" ∷ codes "--seed=7" ∷ codes "--vertices=2" ∷ codes "--edges=3" ∷ codes "--horizon=5" ∷ codes "--of" ∷ codes "bfs" ∷ [])
    ≡ Some (record { command = Made; vertex = None; key = None; from = 0; until = None; steps = None; report = Intervals; told = None; made = Some (record { seed = 7; vertices = 2; edges = 3; horizon = 5; of = Bfs }) })
unfolding graphite_command matches_in clap_on_literals
made_graph = refl

edge_without_a_vertex : query_of (codes "made" ∷ codes "--seed=7" ∷ codes "--vertices=0" ∷ codes "--edges=1" ∷ codes "--horizon=5" ∷ codes "--of" ∷ codes "degree" ∷ []) ≡ None
unfolding graphite_command matches_in clap_on_literals
edge_without_a_vertex = refl

made_graph_without_a_report : query_of (codes "made" ∷ codes "--seed=7" ∷ codes "--vertices=2" ∷ codes "--edges=3" ∷ codes "--horizon=5" ∷ codes "--of" ∷ codes "show" ∷ []) ≡ None
unfolding graphite_command matches_in clap_on_literals
made_graph_without_a_report = refl

number_of_another_program : query_of (codes "degree" ∷ codes "--seed" ∷ codes "7" ∷ []) ≡ None
unfolding graphite_command matches_in clap_on_literals
number_of_another_program = refl
