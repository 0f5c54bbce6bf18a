use Rattle.graphite_text.proofs.RoundTrip.{canonical_text_is_short}
use Rattle.graphite_text.proofs.canonical.canonical_text_is_no_longer.Goals as goal

pub returns : goal.returns
returns c = canonical_text_is_short
