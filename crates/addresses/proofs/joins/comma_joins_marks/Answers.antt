use Rattle.addresses.proofs.Joining.{comma_joins_marks}
use Rattle.addresses.proofs.joins.comma_joins_marks.Goals as goal

pub returns : goal.returns
returns c = comma_joins_marks
