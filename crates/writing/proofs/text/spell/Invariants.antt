use Rattle.addresses.specs.Written.{written}
use Rattle.store.specs.Stored.{stored}
use Rattle.store.specs.Walks.{ahead}
use Rattle.writer.proofs.Takings.{Left}
use Rattle.writing.specs.Stages.{text_ahead}
use Rattle.writing.proofs.text.spell.Given as goal

abbrev pub invariant-loop-look : goal.invariant-loop-look
invariant-loop-look g l = Left g.P.Pieces.took l.initial.pieces (written (stored l.list)) l.pieces (text_ahead l.stage (ahead l.look-iterator))
