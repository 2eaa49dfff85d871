use Rattle.addresses.proofs.Laws.{one_list}
use Rattle.addresses.proofs.lists.written_text_is_of_one_list.Goals as goal

pub returns : goal.returns
returns c = one_list
