use Rattle.addresses.proofs.Removing.{removals_exact}
use Rattle.addresses.proofs.edits.removal_takes_just_its_part.Goals as goal

pub returns : goal.returns
returns c = removals_exact
