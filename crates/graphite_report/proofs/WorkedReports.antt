-- The definitions on worked values: two vertices, of which one lives shorter, and three with durations.
use Rattle.std.proofs.Common.{◌≡◌, ℕ, zero, suc, cond, List, [], ◌∷◌, Some, None, refl, nat_lt, nat_le, ◌&&◌}
use Rattle.std.specs.Prelude.{codes}
use Rattle.std.specs.Fmt.{digits}
use Rattle.graphite_api.specs.declared.duration.Duration.{Duration}
use Rattle.graphite_part.specs.Runs.{runs_of}
use Rattle.graphite_text.specs.Graph.{PlainGraph}
use Rattle.graphite_text.specs.Reading.{Accepted, reading_of}
use Rattle.graphite_report.specs.Given.{durations_in}
use Rattle.graphite_witness.specs.declared.step.Step.{Step}
use Rattle.graphite_report.specs.Report.{Heading, Values, vertex_lines, sums_line, intervals_report, instant_report, sums_report, path_lines, paths_report, one_path_report, summary}

-- the graph of the text
abbrev pub two : PlainGraph
two = record {
  horizon = 10;
  vertices = record { name = codes "a"; life = record { a = 0; b = 10 } ∷ [] } ∷ record { name = codes "b"; life = record { a = 2; b = 5 } ∷ [] } ∷ [];
  edges = [];
  vertex_properties = [];
  edge_properties = [];
}

pub two_are_read : reading_of (codes "graph 1 10\nv a 0 10\nv b 2 5\nend\n") ≡ Accepted two
unfolding reading_of
two_are_read = refl

-- the first has 3 and then none, the second 7
abbrev values : ℕ → Values
values zero t = cond (nat_lt t 4) (Some (Some 3)) (cond (nat_lt t 10) (Some None) None)
values (suc v) t = cond (nat_le 2 t && nat_lt t 5) (Some (Some 7)) None

counted : Heading
counted = record { program = codes "test"; steps = 2; calls = Some 5 }

uncounted : Heading
uncounted = record { program = codes "test"; steps = 2; calls = None }

intervals : intervals_report counted two values (durations_in []) ≡ codes "graphite test steps 2 calls 5\na 0 4 3\na 4 10 none\nb 2 5 7\nend\n"
unfolding intervals_report vertex_lines runs_of digits counted
intervals = refl

at_the_end_of_a_piece : instant_report uncounted two values 4 ≡ codes "graphite test steps 2\na none\nb 7\nend\n"
unfolding instant_report digits uncounted
at_the_end_of_a_piece = refl

at_the_end_of_a_life : instant_report uncounted two values 5 ≡ codes "graphite test steps 2\na none\nend\n"
unfolding instant_report digits uncounted
at_the_end_of_a_life = refl

from_the_horizon_on : instant_report uncounted two values 10 ≡ codes "graphite test steps 2\nend\n"
unfolding instant_report digits uncounted
from_the_horizon_on = refl

sums : sums_report counted two values ≡ codes "graphite test steps 2 calls 5\na 10 4 12\nb 3 3 21\nend\n"
unfolding sums_report sums_line digits counted
sums = refl

-- a vertex without a value at any instant
no_number : sums_line (codes "a") (λ t. cond (nat_lt t 10) (Some None) None) 10 ≡ codes "a 10 0 0\n"
unfolding sums_line digits
no_number = refl

-- ---- durations

-- Three vertices over ten instants. Journeys start at a at the instants 0 and 1, one way leads from there to b in one
-- instant, and none to c.
abbrev three : PlainGraph
three = record {
  horizon = 10;
  vertices = record { name = codes "a"; life = record { a = 0; b = 10 } ∷ [] } ∷ record { name = codes "b"; life = record { a = 0; b = 10 } ∷ [] } ∷ record { name = codes "c"; life = record { a = 0; b = 10 } ∷ [] } ∷ [];
  edges = [];
  vertex_properties = [];
  edge_properties = [];
}

-- the latest start from which a vertex is reached by an instant
abbrev latest_starts : ℕ → Values
latest_starts zero t = cond (nat_lt t 10) (Some (Some (cond (nat_lt t 1) 0 1))) None
latest_starts (suc zero) t = cond (nat_lt t 10) (cond (nat_lt t 1) (Some None) (Some (Some (cond (nat_lt t 2) 0 1)))) None
latest_starts (suc (suc v)) t = cond (nat_lt t 10) (Some None) None

at_once : Duration
at_once = record { length = 0; start = 0; arrive = 0 }

one_instant : Duration
one_instant = record { length = 1; start = 0; arrive = 1 }

fastest : Heading
fastest = record { program = codes "fastest"; steps = 2; calls = None }

durations : intervals_report fastest three latest_starts (durations_in (Some at_once ∷ Some one_instant ∷ None ∷ []))
    ≡ codes "graphite fastest steps 2\na 0 1 0\na 1 10 1\n= a 0 0 0\nb 0 1 none\nb 1 2 0\nb 2 10 1\n= b 1 0 1\nc 0 10 none\n= c none\nend\n"
unfolding intervals_report vertex_lines runs_of digits fastest at_once one_instant
durations = refl

-- a list that is shorter says nothing of the vertices behind it
durations_of_one : intervals_report fastest three latest_starts (durations_in (Some at_once ∷ []))
    ≡ codes "graphite fastest steps 2\na 0 1 0\na 1 10 1\n= a 0 0 0\nb 0 1 none\nb 1 2 0\nb 2 10 1\nc 0 10 none\nend\n"
unfolding intervals_report vertex_lines runs_of digits fastest at_once
durations_of_one = refl

-- ---- written journeys

-- Three vertices over ten instants. At 2 x leads from a to b in one instant at the cost 4, and at 5 y from b to c in two
-- instants at the cost 1.
abbrev way : PlainGraph
way = record {
  horizon = 10;
  vertices = record { name = codes "a"; life = record { a = 0; b = 10 } ∷ [] } ∷ record { name = codes "b"; life = record { a = 0; b = 10 } ∷ [] } ∷ record { name = codes "c"; life = record { a = 4; b = 10 } ∷ [] } ∷ [];
  edges = record { name = codes "x"; from = 0; to = 1; life = record { a = 2; b = 3 } ∷ [] } ∷ record { name = codes "y"; from = 1; to = 2; life = record { a = 5; b = 6 } ∷ [] } ∷ [];
  vertex_properties = [];
  edge_properties = [];
}

-- the earliest arrivals from a
abbrev arrivals : ℕ → Values
arrivals zero t = cond (nat_lt t 10) (Some (Some 0)) None
arrivals (suc zero) t = cond (nat_lt t 10) (Some (cond (nat_lt t 3) None (Some 3))) None
arrivals (suc (suc v)) t = cond (nat_le 4 t && nat_lt t 10) (Some (cond (nat_lt t 7) None (Some 7))) None

-- no step to a, one to b, and two to c; where there is no value, what stands here is not told
abbrev way_steps : ℕ → ℕ → List Step
way_steps zero t = []
way_steps (suc zero) t = record { edge = 0; depart = 2; arrive = 3; cost = 4 } ∷ []
way_steps (suc (suc v)) t = record { edge = 0; depart = 2; arrive = 3; cost = 4 } ∷ record { edge = 1; depart = 5; arrive = 7; cost = 1 } ∷ []

earliest : Heading
earliest = record { program = codes "earliest"; steps = 3; calls = None }

paths : paths_report earliest way arrivals (durations_in []) way_steps
    ≡ codes "graphite earliest steps 3\na 0 10 0\nb 0 3 none\nb 3 10 3\n> x 2 3 4\nc 4 7 none\nc 7 10 7\n> x 2 3 4\n> y 5 7 1\nend\n"
unfolding paths_report path_lines runs_of digits earliest
paths = refl

-- the duration of a vertex stands behind all its steps
path_and_duration : paths_report earliest way arrivals (durations_in (None ∷ Some one_instant ∷ [])) way_steps
    ≡ codes "graphite earliest steps 3\na 0 10 0\n= a none\nb 0 3 none\nb 3 10 3\n> x 2 3 4\n= b 1 0 1\nc 4 7 none\nc 7 10 7\n> x 2 3 4\n> y 5 7 1\nend\n"
unfolding paths_report path_lines runs_of digits earliest one_instant
path_and_duration = refl

one_path : one_path_report earliest way arrivals way_steps 2 9 ≡ codes "graphite earliest steps 3\nc 9 7\n> x 2 3 4\n> y 5 7 1\nend\n"
unfolding one_path_report digits earliest
one_path = refl

path_without_steps : one_path_report earliest way arrivals way_steps 0 9 ≡ codes "graphite earliest steps 3\na 9 0\nend\n"
unfolding one_path_report digits earliest
path_without_steps = refl

no_path : one_path_report earliest way arrivals way_steps 2 6 ≡ codes "graphite earliest steps 3\nc 6 none\nend\n"
unfolding one_path_report digits earliest
no_path = refl

path_of_none_alive : one_path_report earliest way arrivals way_steps 2 3 ≡ codes "graphite earliest steps 3\nend\n"
unfolding one_path_report digits earliest
path_of_none_alive = refl

-- ---- the summary of a made graph

-- three lines, of which that of the instants without a number does not count as valued
summary_of_two : summary counted two 32 values ≡ codes "graphite made test steps 2 calls 5\ntext 32\ngraph 2 0 0\nreport 3 2\nend\n"
unfolding summary runs_of digits counted
summary_of_two = refl

-- two vertices with one property, and an edge between them with two
abbrev owned : PlainGraph
owned = record two {
  edges = record { name = codes "x"; from = 0; to = 1; life = record { a = 2; b = 4 } ∷ [] } ∷ [];
  vertex_properties = record { owner = 1; key = codes "load"; over = record { a = 2; b = 3 }; value = 4 } ∷ [];
  edge_properties = record { owner = 0; key = codes "cost"; over = record { a = 2; b = 3 }; value = 5 } ∷ record { owner = 0; key = codes "cost"; over = record { a = 3; b = 4 }; value = 6 } ∷ [];
}

-- its properties are counted together
summary_of_owned : summary uncounted owned 92 values ≡ codes "graphite made test steps 2\ntext 92\ngraph 2 1 3\nreport 3 2\nend\n"
unfolding summary runs_of digits uncounted
summary_of_owned = refl

-- a graph without a vertex has no line
summary_of_none : summary uncounted (record two { vertices = [] }) 15 values ≡ codes "graphite made test steps 2\ntext 15\ngraph 0 0 0\nreport 0 0\nend\n"
unfolding summary runs_of digits uncounted
summary_of_none = refl
