-- The definitions on worked texts: one text for each rule at least, and texts that are accepted.
use Rattle.std.proofs.Common.{◌≡◌, ◌≤◌, ◌<◌, refl, ℕ, true, false, List, [], ◌∷◌, ◌++◌, length, replicate, arith}
use Rattle.std.specs.Prelude.{codes}
use Rattle.std.proofs.lemmas.Bool.Decides.{nat_tests}
use Rattle.graphite_text.specs.declared.span.Span.{Span}
use Rattle.graphite_text.specs.Graph.{PlainGraph}
use Rattle.graphite_text.specs.Forms.{Vertex, Edge, VertexProperty, EdgeProperty}
use Rattle.graphite_text.specs.Lines.{lines_of}
use Rattle.graphite_text.specs.Reading.{Accepted, Refused, Known, reading_of, reading_from, nothing_known, text_limit, breaks_limit, property_count}

-- three vertices and two edges, with further lines before the last one
abbrev stops_with : List ℕ → List ℕ
stops_with lines =
    codes "graph 1 10\nv a 0 10\nv b 0 10\nv c 2 8\ne ab a b 0 5\ne bc b c 3 7\n" ++ lines ++ codes "end\n"

abbrev stops : PlainGraph
stops = record {
  horizon = 10;
  vertices = record { name = codes "a"; life = record { a = 0; b = 10 } ∷ [] }
      ∷ record { name = codes "b"; life = record { a = 0; b = 10 } ∷ [] }
      ∷ record { name = codes "c"; life = record { a = 2; b = 8 } ∷ [] } ∷ [];
  edges = record { name = codes "ab"; from = 0; to = 1; life = record { a = 0; b = 5 } ∷ [] }
      ∷ record { name = codes "bc"; from = 1; to = 2; life = record { a = 3; b = 7 } ∷ [] } ∷ [];
  vertex_properties = [];
  edge_properties = [];
}

stops_are_read : reading_of (stops_with []) ≡ Accepted stops
unfolding reading_of
stops_are_read = refl

-- properties, comments and blank lines
bus_is_read : reading_of (codes "# bus\ngraph 1 10\n\nv a 0 10\npv a load 0 4 7\nv b 0 10\ne ab a b 0 5\npe ab cost 0 5 3\npv b load 2 6 3\nend\n# done\n") ≡ Accepted record {
  horizon = 10;
  vertices = record { name = codes "a"; life = record { a = 0; b = 10 } ∷ [] }
      ∷ record { name = codes "b"; life = record { a = 0; b = 10 } ∷ [] } ∷ [];
  edges = record { name = codes "ab"; from = 0; to = 1; life = record { a = 0; b = 5 } ∷ [] } ∷ [];
  vertex_properties = record { owner = 0; key = codes "load"; over = record { a = 0; b = 4 }; value = 7 }
      ∷ record { owner = 1; key = codes "load"; over = record { a = 2; b = 6 }; value = 3 } ∷ [];
  edge_properties = record { owner = 0; key = codes "cost"; over = record { a = 0; b = 5 }; value = 3 } ∷ [];
}
unfolding reading_of
bus_is_read = refl

-- ---- rule 1: the form of a line

two_spaces : reading_of (stops_with (codes "v  d 0 1\n")) ≡ Refused 7 1
unfolding reading_of
two_spaces = refl

space_at_the_end : reading_of (stops_with (codes "v d 0 1 \n")) ≡ Refused 7 1
unfolding reading_of
space_at_the_end = refl

long_comment : reading_of (stops_with (codes "#" ++ replicate 1024 120 ++ codes "\n")) ≡ Refused 7 1
unfolding reading_of
long_comment = refl

longest_comment : reading_of (stops_with (codes "#" ++ replicate 1023 120 ++ codes "\n")) ≡ Accepted stops
unfolding reading_of
longest_comment = refl

no_line_feed : reading_of (codes "graph 1 10\nv a 0 10\nv b 0 10\nv c 2 8\ne ab a b 0 5\ne bc b c 3") ≡ Refused 6 1
unfolding reading_of
no_line_feed = refl

-- ---- rule 2: the header

header_again : reading_of (stops_with (codes "graph 1 10\n")) ≡ Refused 7 2
unfolding reading_of
header_again = refl

other_version : reading_of (codes "graph 2 10\nend\n") ≡ Refused 1 2
unfolding reading_of
other_version = refl

-- ---- rule 3: the word and the number of fields

other_word : reading_of (stops_with (codes "x d 0 1\n")) ≡ Refused 7 3
unfolding reading_of
other_word = refl

field_missing : reading_of (stops_with (codes "v d 0\n")) ≡ Refused 7 3
unfolding reading_of
field_missing = refl

-- ---- rule 4: names and keys

other_byte_in_a_name : reading_of (stops_with (codes "v d! 0 1\n")) ≡ Refused 7 4
unfolding reading_of
other_byte_in_a_name = refl

long_name : reading_of (stops_with (codes "v " ++ replicate 65 100 ++ codes " 0 1\n")) ≡ Refused 7 4
unfolding reading_of
long_name = refl

-- ---- rule 5: numbers

leading_zero : reading_of (stops_with (codes "v d 0 01\n")) ≡ Refused 7 5
unfolding reading_of
leading_zero = refl

late_instant : reading_of (stops_with (codes "v d 0 17592186044417\n")) ≡ Refused 7 5
unfolding reading_of
late_instant = refl

large_value : reading_of (stops_with (codes "pv a k 0 1 4294967296\n")) ≡ Refused 7 5
unfolding reading_of
large_value = refl

-- ---- rule 6: the order of a span, and the horizon

no_instant : reading_of (stops_with (codes "v d 1 1\n")) ≡ Refused 7 6
unfolding reading_of
no_instant = refl

-- it breaks rule 7 too
past_the_horizon : reading_of (stops_with (codes "v a 0 11\n")) ≡ Refused 7 6
unfolding reading_of
past_the_horizon = refl

-- it breaks rule 9 too
edge_past_the_horizon : reading_of (codes "graph 1 10\nv a 0 10\nv b 0 10\nv c 2 8\ne ac a c 0 12\ne bc b c 3 7\nend\n") ≡ Refused 5 6
unfolding reading_of
edge_past_the_horizon = refl

-- ---- rule 7: new names

vertex_again : reading_of (stops_with (codes "v a 0 1\n")) ≡ Refused 7 7
unfolding reading_of
vertex_again = refl

edge_again : reading_of (stops_with (codes "e ab a b 0 1\n")) ≡ Refused 7 7
unfolding reading_of
edge_again = refl

-- ---- rule 8: declared names

edge_to_no_vertex : reading_of (stops_with (codes "e x a z 0 1\n")) ≡ Refused 7 8
unfolding reading_of
edge_to_no_vertex = refl

property_of_no_vertex : reading_of (stops_with (codes "pv z k 0 1 1\n")) ≡ Refused 7 8
unfolding reading_of
property_of_no_vertex = refl

-- ---- rule 9: edges within the lives of their ends

edge_outside_an_end : reading_of (stops_with (codes "e x a c 0 3\n")) ≡ Refused 7 9
unfolding reading_of
edge_outside_an_end = refl

first_edge_outside_an_end : reading_of (codes "graph 1 10\nv a 0 10\nv b 0 10\nv c 2 8\ne ac a c 0 5\ne bc b c 3 7\nend\n") ≡ Refused 5 9
unfolding reading_of
first_edge_outside_an_end = refl

-- ---- rule 10: properties within the life of their owner

property_outside_its_owner : reading_of (stops_with (codes "pe ab k 0 6 1\n")) ≡ Refused 7 10
unfolding reading_of
property_outside_its_owner = refl

-- it breaks rule 12 too
no_time_outside_its_owner : reading_of (stops_with (codes "pe ab time 0 6 0\n")) ≡ Refused 7 10
unfolding reading_of
no_time_outside_its_owner = refl

-- ---- rule 11: properties of one owner and key apart

properties_that_meet : reading_of (stops_with (codes "pv a k 0 4 7\npv a k 3 5 7\n")) ≡ Refused 8 11
unfolding reading_of
properties_that_meet = refl

-- ---- rule 12: travel times

no_travel_time : reading_of (stops_with (codes "pe ab time 0 5 0\n")) ≡ Refused 7 12
unfolding reading_of
no_travel_time = refl

-- ---- rule 13: how many lines of a kind there may be

vertex_past_the_limit : (known : Known) (name : List ℕ) (over : Span) → length known.graph.vertices ≡ 1048576 → breaks_limit known (Vertex name over) ≡ true
vertex_past_the_limit known name over is = grind (arith, nat_tests)

last_vertex : (known : Known) (name : List ℕ) (over : Span) → length known.graph.vertices ≡ 1048575 → breaks_limit known (Vertex name over) ≡ false
last_vertex known name over is = grind (arith, nat_tests)

edge_past_the_limit : (known : Known) (name from to : List ℕ) (over : Span) → length known.graph.edges ≡ 2097152 → breaks_limit known (Edge name from to over) ≡ true
edge_past_the_limit known name from to over is = grind (arith, nat_tests)

last_edge : (known : Known) (name from to : List ℕ) (over : Span) → length known.graph.edges ≡ 2097151 → breaks_limit known (Edge name from to over) ≡ false
last_edge known name from to over is = grind (arith, nat_tests)

property_past_the_limit : (known : Known) (owner key : List ℕ) (over : Span) (value : ℕ) → property_count known.graph ≡ 4194304 → breaks_limit known (EdgeProperty owner key over value) ≡ true
property_past_the_limit known owner key over value is = grind (arith, nat_tests)

last_property : (known : Known) (owner key : List ℕ) (over : Span) (value : ℕ) → property_count known.graph ≡ 4194303 → breaks_limit known (VertexProperty owner key over value) ≡ false
last_property known owner key over value is = grind (arith, nat_tests)

-- ---- rule 14: the end

no_end : reading_of (codes "graph 1 10\nv a 0 10\nv b 0 10\nv c 2 8\ne ab a b 0 5\ne bc b c 3 7\n") ≡ Refused 7 14
unfolding reading_of
no_end = refl

nothing_at_all : reading_of [] ≡ Refused 1 14
unfolding reading_of
nothing_at_all = refl

-- ---- rule 15: after the end

record_after_the_end : reading_of (stops_with [] ++ codes "v d 0 1\n") ≡ Refused 8 15
unfolding reading_of
record_after_the_end = refl

-- ---- rule 16: the length of the text

long_text : (bytes : List ℕ) → text_limit < length bytes → reading_of bytes ≡ Refused 0 16
unfolding reading_of
long_text bytes long = grind (arith, nat_tests)

longest_text : (bytes : List ℕ) → length bytes ≤ text_limit → reading_of bytes ≡ reading_from 1 nothing_known (lines_of bytes)
unfolding reading_of
longest_text bytes short = grind (arith, nat_tests)
