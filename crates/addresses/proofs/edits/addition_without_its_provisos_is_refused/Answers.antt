use Rattle.addresses.proofs.Adding.{additions_denied}
use Rattle.addresses.proofs.edits.addition_without_its_provisos_is_refused.Goals as goal

pub returns : goal.returns
returns c = additions_denied
