use Rattle.graphite_text.proofs.RoundTrip.{same_from_canonical_text}
use Rattle.graphite_text.proofs.canonical.canonical_text_tells_graphs_apart.Goals as goal

pub returns : goal.returns
returns c = same_from_canonical_text
