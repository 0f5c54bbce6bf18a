-- The message is the value of a list.
use Rattle.graphite_api.proofs.DepartureLemmas.{message_attains}
use Rattle.graphite_api.proofs.journey_laws.each_message_is_attained.Goals as goal

pub returns : goal.returns
returns c = λ values lives arcs start arc over x message hops stays first last among made leads t held.
    message_attains values lives arc stays over first last arcs start x message among made hops leads t held
