use Rattle.graphite_text.proofs.RoundTrip.{round_trip}
use Rattle.graphite_text.proofs.canonical.canonical_text_is_read.Goals as goal

pub returns : goal.returns
returns c = round_trip
