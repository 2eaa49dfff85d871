use Rattle.addresses.proofs.Joining.{comma_joins}
use Rattle.addresses.proofs.joins.comma_joins.Goals as goal

pub returns : goal.returns
returns c = comma_joins
