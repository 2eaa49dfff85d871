use Rattle.addresses.proofs.Laws.{read_exactly}
use Rattle.addresses.proofs.readings.read_is_accepted_exactly.Goals as goal

pub returns : goal.returns
returns c = read_exactly
