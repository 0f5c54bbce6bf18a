-- The text of a made graph is short, and is accepted with that graph.
use Rattle.std.proofs.Common.{◌≡◌, ◌≤◌, ◌<◌, ℕ, List, length, ◌∙◌, arith}
use Rattle.std.proofs.lemmas.Bool.{cond-true, le-leb}
use Rattle.graphite_text.specs.Lines.{lines_of}
use Rattle.graphite_text.specs.Reading.{Accepted, reading_of, reading_from, nothing_known, text_limit}
use Rattle.graphite_text.specs.Canonical.{canonical_text}
use Rattle.graphite_text.proofs.CanonicalReading.{canonical_text_of_sound}
use Rattle.graphite_gen.specs.Made.{Recipe, IsRecipe, made_graph}
use Rattle.graphite_gen.proofs.SpanLemmas.{choices_of, choices_are_fit}
use Rattle.graphite_gen.proofs.SoundLemmas.{graph_is_sound}
use Rattle.graphite_gen.proofs.SizeLemmas.{graph_is_short}

-- a text within the limit is read from its first line on
read_where_short : (text : List ℕ) → length text ≤ text_limit → reading_of text ≡ reading_from 1 nothing_known (lines_of text)
unfolding reading_of
read_where_short text short = cond-true _ _ _ (le-leb (length text) text_limit short)

made_bytes : (recipe : Recipe) → IsRecipe recipe → length (canonical_text (made_graph recipe)) ≤ 242000036
made_bytes recipe is = graph_is_short recipe.horizon recipe.vertices recipe.edges (choices_of recipe) (choices_are_fit recipe is)

pub made_is_short : (recipe : Recipe) → IsRecipe recipe → length (canonical_text (made_graph recipe)) < 250000000
made_is_short recipe is = omega (arith, made_bytes recipe is)

pub made_is_accepted : (recipe : Recipe) → IsRecipe recipe → reading_of (canonical_text (made_graph recipe)) ≡ Accepted (made_graph recipe)
made_is_accepted recipe is =
    let fit = choices_are_fit recipe is in
    read_where_short (canonical_text (made_graph recipe)) (omega (arith, made_bytes recipe is))
    ∙ canonical_text_of_sound (made_graph recipe) (graph_is_sound recipe.horizon recipe.vertices recipe.edges (choices_of recipe) fit) 1
