-- The canonical text on worked texts.
use Rattle.std.proofs.Common.{◌≡◌, refl, [], ◌∷◌}
use Rattle.std.specs.Prelude.{codes}
use Rattle.std.specs.Fmt.{digits}
use Rattle.graphite_text.specs.Graph.{PlainGraph}
use Rattle.graphite_text.specs.Reading.{Accepted, reading_of}
use Rattle.graphite_text.specs.Canonical.{canonical_text}

abbrev bus : PlainGraph
bus = record {
  horizon = 10;
  vertices = record { name = codes "a"; life = record { a = 0; b = 10 } ∷ [] }
      ∷ record { name = codes "b"; life = record { a = 0; b = 10 } ∷ [] } ∷ [];
  edges = record { name = codes "ab"; from = 0; to = 1; life = record { a = 0; b = 5 } ∷ [] } ∷ [];
  vertex_properties = record { owner = 0; key = codes "load"; over = record { a = 0; b = 4 }; value = 7 }
      ∷ record { owner = 1; key = codes "load"; over = record { a = 2; b = 6 }; value = 3 } ∷ [];
  edge_properties = record { owner = 0; key = codes "cost"; over = record { a = 0; b = 5 }; value = 3 } ∷ [];
}

-- properties among the vertices and edges, a comment and a blank line
bus_is_read : reading_of (codes "# bus\ngraph 1 10\n\nv a 0 10\npv a load 0 4 7\nv b 0 10\ne ab a b 0 5\npe ab cost 0 5 3\npv b load 2 6 3\nend\n# done\n") ≡ Accepted bus
unfolding reading_of
bus_is_read = refl

bus_is_written : canonical_text bus ≡ codes "graph 1 10\nv a 0 10\nv b 0 10\ne ab a b 0 5\npv a load 0 4 7\npv b load 2 6 3\npe ab cost 0 5 3\nend\n"
unfolding canonical_text digits
bus_is_written = refl

-- a graph with nothing in it
empty_is_written : canonical_text record { horizon = 17592186044416; vertices = []; edges = []; vertex_properties = []; edge_properties = [] } ≡ codes "graph 1 17592186044416\nend\n"
unfolding canonical_text digits
empty_is_written = refl
