-- A turn of a row, in the words of the model.
--     asked_in waiting close n t    what it asks of a list, where the buffer for writings has n bytes
--     told_in t                     what it was told
-- Assumes nothing.
use Rattle.std.specs.Prelude.{ℕ, List}
use Rattle.marks.specs.declared.mark.Mark.{Mark}
use Rattle.marks.specs.Gives.{Close}
use Rattle.addresses.specs.Events as model
use Rattle.life.specs.declared.turn.Turn.{Turn}
use Rattle.life.specs.Asked.{asked}
use Rattle.life.specs.Told.{told}

abbrev pub asked_in : {S : Type 0} → (S → List Mark) → (S → Close) → ℕ → Turn S → model.Event
asked_in waiting close n t = asked waiting close n t.event t.source

abbrev pub told_in : {S : Type 0} → Turn S → model.Reply
told_in t = told t.answer
