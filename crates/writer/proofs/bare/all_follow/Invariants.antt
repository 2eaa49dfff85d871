use Rattle.std.proofs.Common.{◌≡◌, eqb, drop}
use Rattle.addresses.specs.Signs.{at_sign}
use Rattle.addresses.specs.Bare.{follow}
use Rattle.writer.proofs.bare.all_follow.Given as goal

-- what is left decides
abbrev pub invariant-loop-c : goal.invariant-loop-c
invariant-loop-c l = follow l.seen (drop l.c-index l.rest) ≡ follow (eqb at_sign l.first) l.rest
