use Rattle.addresses.proofs.Laws.{readable_is_proper}
use Rattle.addresses.proofs.lists.readable_is_proper.Goals as goal

pub returns : goal.returns
returns c = readable_is_proper
