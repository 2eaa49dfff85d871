use Rattle.addresses.proofs.Adding.{additions_definite}
use Rattle.addresses.proofs.edits.addition_would_leave_one_list.Goals as goal

pub returns : goal.returns
returns c = additions_definite
