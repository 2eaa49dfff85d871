use Rattle.std.proofs.Common.{refl}
use lib.Utf8.{encode}
use Rattle.characters.specs.WhiteSpace.{white}
use Rattle.characters.specs.Decoding.{decoded}
use Rattle.addresses.specs.Limits.{within}
use Rattle.addresses.specs.Written.{written}
use Rattle.addresses.specs.WellFormed.{characters_from}
use Rattle.addresses.proofs.edits.edit_samples_hold.Goals as goal

pub returns : goal.returns
unfolding encode white decoded within written characters_from
returns c = (refl, (refl, (refl, (refl, (refl, (refl, (refl, (refl, (refl, (refl, (refl, (refl, (refl, (refl, (refl, (refl, (refl, (refl, (refl, (refl, (refl, (refl, tt))))))))))))))))))))))
