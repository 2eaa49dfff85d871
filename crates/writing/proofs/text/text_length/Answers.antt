use Rattle.std.proofs.Common.{rules}
use Rattle.writing.proofs.Bounds.{few_bytes}
use Rattle.writing.proofs.text.text_length.Goals as goal

pub returns : goal.returns
returns c = let few = few_bytes c.args.list.now in search rules
