use Rattle.std.proofs.Common.{◌≡◌, ◌-◌, length}
use Rattle.marks.specs.Tables.{table_from}
use Rattle.marks.proofs.table.walk.TokenTableSource.next.Given as goal

-- tokens that give nothing leave what is to come
abbrev pub invariant-loop-self : goal.invariant-loop-self
invariant-loop-self l =
    table_from l.initial.self.text.now l.initial.self.tokens.now l.initial.self.part l.initial.self.index
    ≡ table_from l.self.text.now l.self.tokens.now l.self.part l.self.index

abbrev pub decreases-loop-self : goal.decreases-loop-self
decreases-loop-self l = length l.self.tokens.now - l.self.index
