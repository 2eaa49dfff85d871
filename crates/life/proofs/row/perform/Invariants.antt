use Rattle.std.proofs.Common.{◌≡◌, take, drop}
use Rattle.mailboxes.specs.Listed.{listed}
use Rattle.life.specs.Rows.{Row}
use Rattle.life.proofs.row.perform.Given as goal

abbrev pub invariant-loop-turn : goal.invariant-loop-turn
invariant-loop-turn g l =
    Row g.S.Source.waiting g.S.Source.close (listed l.initial.list) l.initial.out (take l.turn-index l.initial.turns) (take l.turn-index l.turns) (listed l.list) l.out
    × (drop l.turn-index l.turns ≡ drop l.turn-index l.initial.turns)
