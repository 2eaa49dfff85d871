-- What a layer keeps of a run.
--     codes o      the code points of its blanks, of which there are none before room for them is made
--     beside b     the mark behind it, as a row of one mark or of none
--     behind s     the mark behind the run that is held in the state s, in the same way
--     Pushed       what a run answers where a blank more is to be held
-- Assumes nothing.
use Rattle.std.specs.Prelude.{◌≡◌, ℕ, ◌<◌, ◌≤◌, List, [], ◌∷◌, ◌++◌, length, Some, None, Ok, Err, Option, Result}
use Rattle.arrayvec.specs.ArrayVec.{ArrayVec}
use Rattle.marks.specs.declared.mark.Mark.{Mark}
use Rattle.blanks.specs.declared.run.TooLong.{TooLong}
use Rattle.blanks.specs.declared.state.State.{State}
use Rattle.blanks.specs.declared.state.State.TheVariants.{Plain, AfterWord, Holding, Long}

abbrev pub codes : Option (ArrayVec ℕ) → List ℕ
codes None = []
codes (Some points) = points.items

abbrev pub beside : Option Mark → List Mark
beside None = []
beside (Some m) = m ∷ []

abbrev pub behind : State → List Mark
behind Plain = []
behind AfterWord = []
behind (Holding from b) = beside b
behind Long = []

-- cs are held, and then cs': one more, or as before where 1,000 are held
abbrev pub Pushed : List ℕ → ℕ → Result Unit TooLong → List ℕ → Type 0
Pushed cs c (Ok done) cs' = (length cs < 1000) × (cs' ≡ cs ++ c ∷ [])
Pushed cs c (Err e) cs' = (1000 ≤ length cs) × (cs' ≡ cs)
