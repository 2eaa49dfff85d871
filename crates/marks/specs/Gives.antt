-- What a source answers.
--     Close           how a source closes: `Ok tt` at the end, or `Err` with the fault that broke it off
--     closing c       what the close c answers, as often as it is asked
--     answer ws c     the first mark of ws, or the close c where ws is empty
--     after ws        what then waits
--     Gives           an implementation of `next` answers that, leaves the rest, and keeps the close
-- Assumes nothing.
use Rattle.std.specs.Prelude.{◌≡◌, List, [], ◌∷◌, Some, None, Ok, Err, Option, Result, ⊤}
use Rattle.marks.specs.declared.mark.Mark.{Mark}
use Rattle.marks.specs.declared.fault.Fault.{Fault}

abbrev pub Close : Type 0
Close = Result ⊤ Fault

abbrev pub closing : Close → Result (Option Mark) Fault
closing (Ok tt) = Ok None
closing (Err f) = Err f

abbrev pub answer : List Mark → Close → Result (Option Mark) Fault
answer [] c = closing c
answer (m ∷ ms) c = Ok (Some m)

abbrev pub after : List Mark → List Mark
after [] = []
after (m ∷ ms) = ms

-- where ws wait and c closes, r is answered, and then ws' wait and c' closes
pub record Gives (ws : List Mark) (c : Close) (r : Result (Option Mark) Fault) (ws' : List Mark) (c' : Close) : Type 0 where
  pub answers : r ≡ answer ws c
  pub leaves : ws' ≡ after ws
  pub keeps : c' ≡ c
