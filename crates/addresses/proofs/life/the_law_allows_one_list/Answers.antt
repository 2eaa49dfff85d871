use Rattle.addresses.proofs.Deciding.{life_decides}
use Rattle.addresses.proofs.life.the_law_allows_one_list.Goals as goal

pub returns : goal.returns
returns c = life_decides
