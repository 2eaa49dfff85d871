-- A comma joins: put between two texts, each of which reads as a list, it makes a text that reads as the entries of the first
-- list and then those of the second. A reader that loses an entry, or lets what stands before change one, breaks this.
--     CommaJoins          of texts
--     CommaJoinsMarks     of rows of marks, from any source
-- Assumes nothing.
use Rattle.std.specs.Prelude.{ℕ, ◌≤◌, List, ◌∷◌, ◌++◌, length}
use Rattle.marks.specs.declared.mark.Mark.{Mark}
use Rattle.marks.specs.declared.mark.Mark.TheVariants.{Char}
use Rattle.addresses.specs.Signs.{comma}
use Rattle.addresses.specs.Mailboxes.{Entry}
use Rattle.addresses.specs.Limits.{Within, most_marks}
use Rattle.addresses.specs.Reading.{HasReading}
use Rattle.addresses.specs.ReadsAs.{ReadsAs}

-- the whole has to be at most 60,000 bytes, and the two lists in one have to keep the limits
abbrev pub CommaJoins : Type 0
CommaJoins = (bs cs : List ℕ) (l k : List Entry) → ReadsAs bs l → ReadsAs cs k → length (bs ++ comma ∷ cs) ≤ 60000 → Within (l ++ k) → ReadsAs (bs ++ comma ∷ cs) (l ++ k)

abbrev pub CommaJoinsMarks : Type 0
CommaJoinsMarks = (ms ns : List Mark) (l k : List Entry) → HasReading ms l → HasReading ns k → length (ms ++ Char comma ∷ ns) ≤ most_marks → Within (l ++ k) → HasReading (ms ++ Char comma ∷ ns) (l ++ k)
