use Rattle.addresses.proofs.Living.{life_law}
use Rattle.addresses.proofs.life.every_life_keeps_the_law.Goals as goal

pub returns : goal.returns
returns c = life_law
