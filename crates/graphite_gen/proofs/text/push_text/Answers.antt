use Rattle.graphite_text.specs.Canonical.{canonical_text, form_line}
use Rattle.graphite_text.specs.Forms.{End, Header}
use Rattle.graphite_gen.specs.Drawn.{edge_line, edge_lines, recipe_of, size_line, travel_lines, vertex_line, vertex_lines}
use Rattle.graphite_gen.specs.Made.{made_graph}
use Rattle.graphite_gen.proofs.TextLemmas.{parts_are, text_is}
use Rattle.graphite_gen.proofs.text.push_text.Goals as goal

pub returns : goal.returns
returns c =
    let recipe = recipe_of c.args.numbers in
    parts_are c.args.into.now.items (form_line (Header 1 recipe.horizon)) (vertex_lines vertex_line recipe recipe.vertices) (edge_lines edge_line recipe recipe.edges) (vertex_lines size_line recipe recipe.vertices) (edge_lines travel_lines recipe recipe.edges) (form_line End) c.push_record.new.into.items c.push_vertices.new.into.items c.push_edges.new.into.items c.push_sizes.new.into.items c.push_travel.new.into.items c.push_record-2.new.into.items (canonical_text (made_graph recipe)) (text_is recipe c.requires.recipe) c.in_ok-push_record.ensures c.in_ok-push_vertices.ensures c.in_ok-push_edges.ensures c.in_ok-push_sizes.ensures c.in_ok-push_travel.ensures c.in_ok-push_record-2.ensures
