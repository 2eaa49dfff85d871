use Rattle.addresses.proofs.Removing.{removals_refused}
use Rattle.addresses.proofs.edits.removal_is_refused_for_what_is_missing.Goals as goal

pub returns : goal.returns
returns c = removals_refused
