use Rattle.addresses.proofs.Characters.{characters_found}
use Rattle.addresses.proofs.edits.characters_of_bytes_are_found.Goals as goal

pub returns : goal.returns
returns c = characters_found
