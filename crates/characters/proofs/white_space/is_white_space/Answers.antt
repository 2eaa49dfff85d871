use Rattle.std.proofs.Common.{arith}
use Rattle.std.proofs.lemmas.Bool.Decides.{nat_tests}
use Rattle.characters.proofs.Ranges.{ranges_hold}
use Rattle.characters.proofs.white_space.is_white_space.Goals as goal

pub returns-in_default : goal.returns-in_default
returns-in_default c = let e = ranges_hold c.args.c in record { answer = grind (arith, nat_tests); ranges = ranges_hold }

pub returns-in_default-2 : goal.returns-in_default-2
returns-in_default-2 c = let e = ranges_hold c.args.c in record { answer = grind (arith, nat_tests); ranges = ranges_hold }

pub returns-in_default-3 : goal.returns-in_default-3
returns-in_default-3 c = let e = ranges_hold c.args.c in record { answer = grind (arith, nat_tests); ranges = ranges_hold }

pub returns-in_default-4 : goal.returns-in_default-4
returns-in_default-4 c = let e = ranges_hold c.args.c in record { answer = grind (arith, nat_tests); ranges = ranges_hold }

pub returns-in-9-to-13 : goal.returns-in-9-to-13
returns-in-9-to-13 c = let e = ranges_hold c.args.c in record { answer = grind (arith, nat_tests); ranges = ranges_hold }

pub returns-in-9-to-13-2 : goal.returns-in-9-to-13-2
returns-in-9-to-13-2 c = let e = ranges_hold c.args.c in record { answer = grind (arith, nat_tests); ranges = ranges_hold }

pub returns-in-9-to-13-3 : goal.returns-in-9-to-13-3
returns-in-9-to-13-3 c = let e = ranges_hold c.args.c in record { answer = grind (arith, nat_tests); ranges = ranges_hold }

pub returns-in-9-to-13-4 : goal.returns-in-9-to-13-4
returns-in-9-to-13-4 c = let e = ranges_hold c.args.c in record { answer = grind (arith, nat_tests); ranges = ranges_hold }
