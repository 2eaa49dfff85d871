-- What a layer still gives, from what it holds and what waits below.
--     ahead h ws          what a layer that holds h gives, where ws wait below
--     waits h ws          the marks of it
--     closes h ws c       how the layer then closes, where c closes below
--     gathered r cs ws    what is given of a run that was read as r, with the code points cs
--     IsHolding s         a run is held in the state s
--     Gave, Steps         one answer, from what is held and from all
-- Assumes nothing.
use Rattle.std.specs.Prelude.{◌≡◌, ℕ, ◌+◌, min, cond, List, [], ◌∷◌, length, drop, Some, None, Ok, Err, Option, Result}
use Rattle.marks.specs.declared.mark.Mark.{Mark}
use Rattle.marks.specs.declared.fault.Fault.{Fault}
use Rattle.marks.specs.Gives.{Close, Gives}
use Rattle.blanks.specs.declared.run.TooLong.{TooLong}
use Rattle.blanks.specs.declared.state.State.{State}
use Rattle.blanks.specs.declared.state.State.TheVariants.{Plain, AfterWord, Holding, Long}
use Rattle.blanks.specs.declared.held.Held.{Held}
use Rattle.blanks.specs.Given.{Given, inside, outside, after, these, run_too_long, blanks, giving, long_run}
use Rattle.blanks.specs.Kept.{beside}

-- the mark behind a run, if there is one, and what follows it
abbrev pub behind_run : Option Mark → List Mark → Given
behind_run None ws = giving outside ws
behind_run (Some m) ws = these (m ∷ []) (giving (after m) ws)

abbrev pub gathered : Result (Option Mark) TooLong → List ℕ → List Mark → Given
gathered (Ok b) cs ws = these (blanks cs) (behind_run b ws)
gathered (Err e) cs ws = run_too_long

-- the mark behind a run that was read as r
abbrev pub behind_of : Result (Option Mark) TooLong → List Mark
behind_of (Ok b) = beside b
behind_of (Err e) = []

-- from the state, where the run has the code points cs
abbrev pub standing : State → List ℕ → List Mark → Given
standing Plain cs ws = giving outside ws
standing AfterWord cs ws = giving (inside []) ws
standing (Holding from b) cs ws = these (blanks (drop from cs)) (behind_run b ws)
standing Long cs ws = run_too_long

abbrev pub ahead : Held → List Mark → Given
ahead h ws = standing h.state h.run ws

abbrev pub waits : Held → List Mark → List Mark
waits h ws = (ahead h ws).marks

-- how a layer closes that gave n marks before g
abbrev pub close_after : ℕ → Given → Close → Close
close_after n g c = cond g.long (Err (long_run (n + length g.marks))) c

abbrev pub closes : Held → List Mark → Close → Close
closes h ws c = close_after h.given (ahead h ws) c

-- one mark more was given
abbrev pub counted : ℕ → ℕ
counted n = min (n + 1) 4294967295

-- a run is held
abbrev pub IsHolding : State → Type 0
IsHolding s = (from : ℕ) × (b : Option Mark) × (s ≡ Holding from b)

-- from h the mark is given and h' is left, or nothing is held any more and the layer stands outside a run
abbrev pub Gave : Held → Option Mark → Held → Type 0
Gave h (Some m) h' = ((ws : List Mark) → ahead h ws ≡ these (m ∷ []) (ahead h' ws)) × (h'.given ≡ counted h.given)
Gave h None h' = ((ws : List Mark) → ahead h ws ≡ ahead h' ws) × (h'.given ≡ h.given) × (h'.state ≡ Plain)

-- a layer that holds h, where ws wait and c closes below, answers r and then stands so with h', ws' and c'
abbrev pub Steps : Held → List Mark → Close → Result (Option Mark) Fault → Held → List Mark → Close → Type 0
Steps h ws c r h' ws' c' = Gives (waits h ws) (closes h ws c) r (waits h' ws') (closes h' ws' c')
