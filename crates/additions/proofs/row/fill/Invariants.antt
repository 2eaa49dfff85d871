use Rattle.std.proofs.Common.{◌≡◌, true}
use Rattle.addresses.specs.Limits.{short}
use Rattle.additions.proofs.row.fill.Given as goal

-- the row has what has been met
abbrev pub invariant-loop-c : goal.invariant-loop-c
invariant-loop-c l = (l.row ≡ l.yielded) × (short l.yielded ≡ true)
