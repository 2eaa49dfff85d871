use Rattle.addresses.proofs.Laws.{one_reading}
use Rattle.addresses.proofs.readings.text_has_one_reading.Goals as goal

pub returns : goal.returns
returns c = one_reading
