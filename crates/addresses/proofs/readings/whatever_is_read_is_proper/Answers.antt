use Rattle.addresses.proofs.Laws.{read_is_proper}
use Rattle.addresses.proofs.readings.whatever_is_read_is_proper.Goals as goal

pub returns : goal.returns
returns c = read_is_proper
