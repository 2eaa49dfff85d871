use Rattle.addresses.proofs.Removing.{looks_refused}
use Rattle.addresses.proofs.edits.look_is_refused_for_what_is_missing.Goals as goal

pub returns : goal.returns
returns c = looks_refused
