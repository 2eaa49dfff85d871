use Rattle.addresses.proofs.Laws.{fine_is_proper}
use Rattle.addresses.proofs.lists.fine_is_proper.Goals as goal

pub returns : goal.returns
returns c = fine_is_proper
