use Rattle.addresses.proofs.Laws.{accepted_takes_all}
use Rattle.addresses.proofs.readings.accepted_read_takes_all.Goals as goal

pub returns : goal.returns
returns c = accepted_takes_all
