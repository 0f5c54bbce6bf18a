-- The message of the first departure.
use Rattle.graphite_api.proofs.DepartureLemmas.{message_made, message_holds, message_good}
use Rattle.graphite_api.proofs.journey_laws.the_first_departure_is_enough.Goals as goal

pub returns-clause-made : goal.returns-clause-made
returns-clause-made c = λ values lives arc over x stays first last.
    let made = message_made values lives arc stays over first last x in
    (made.0, made.1)

pub returns-clause-good : goal.returns-clause-good
returns-clause-good c = λ values lives arc over x message lawful lives_are stays first last made depart t held waits. (
  message_holds values lives arc stays over first last x message lives_are made depart t held waits,
  message_good values lives arc stays over first last x message lawful made depart held,
)
