use Rattle.addresses.proofs.Removing.{removals_proper}
use Rattle.addresses.proofs.edits.removal_leaves_a_proper_list.Goals as goal

pub returns : goal.returns
returns c = removals_proper
