-- What a layer answers over the source below it, of which `waiting` says what waits there, and `close` how it closes.
--     Answers waiting close ms l r l'    the layer l, which took the marks ms from below and has not looked at them yet,
--                                        answers r and then stands as l'
-- Assumes nothing.
use Rattle.std.specs.Prelude.{List, ◌++◌, Option, Result}
use Rattle.marks.specs.declared.mark.Mark.{Mark}
use Rattle.marks.specs.declared.fault.Fault.{Fault}
use Rattle.marks.specs.Gives.{Close}
use Rattle.blanks.specs.declared.layer.BlankLayer.{BlankLayer}
use Rattle.blanks.specs.Ahead.{Steps}

abbrev pub Answers : {S : Type 0} → (S → List Mark) → (S → Close) → List Mark → BlankLayer S → Result (Option Mark) Fault → BlankLayer S → Type 0
Answers waiting close ms l r l' = Steps l.held (ms ++ waiting l.below) (close l.below) r l'.held (waiting l'.below) (close l'.below)
