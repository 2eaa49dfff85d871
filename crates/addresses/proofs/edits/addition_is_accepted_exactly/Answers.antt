use Rattle.addresses.proofs.Adding.{additions_judged}
use Rattle.addresses.proofs.edits.addition_is_accepted_exactly.Goals as goal

pub returns : goal.returns
returns c = additions_judged
