use Rattle.addresses.proofs.Living.{event_law}
use Rattle.addresses.proofs.life.every_event_keeps_the_law.Goals as goal

pub returns : goal.returns
returns c = event_law
