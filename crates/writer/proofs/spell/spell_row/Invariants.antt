use Rattle.std.proofs.Common.{drop}
use Rattle.writer.proofs.Takings.{Left}
use Rattle.writer.proofs.spell.spell_row.Given as goal

abbrev pub invariant-loop-c : goal.invariant-loop-c
invariant-loop-c g l = Left g.S.Sink.took l.initial.sink l.row l.sink (drop l.c-index l.row)
