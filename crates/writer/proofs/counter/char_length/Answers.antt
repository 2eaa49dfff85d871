use Rattle.std.proofs.Common.{rules}
use Rattle.std.proofs.lemmas.Str.{length-encode}
use Rattle.writer.proofs.counter.char_length.Goals as goal

pub returns-in-128-to-2047 : goal.returns-in-128-to-2047
returns-in-128-to-2047 c = rw (length-encode c.args.c) (search rules)

pub returns-in-2048-to-65535 : goal.returns-in-2048-to-65535
returns-in-2048-to-65535 c = rw (length-encode c.args.c) (search rules)

pub returns-in_default : goal.returns-in_default
returns-in_default c = rw (length-encode c.args.c) (search rules)
