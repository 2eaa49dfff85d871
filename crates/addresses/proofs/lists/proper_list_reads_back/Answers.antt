use Rattle.addresses.proofs.Laws.{reads_back}
use Rattle.addresses.proofs.lists.proper_list_reads_back.Goals as goal

pub returns : goal.returns
returns c = reads_back
