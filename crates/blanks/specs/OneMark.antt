-- One mark as the layer takes it. Assumes nothing.
use Rattle.std.specs.Prelude.{ℕ, List, [], Some, None, Option}
use Rattle.marks.specs.declared.mark.Mark.{Mark}
use Rattle.marks.specs.declared.mark.Mark.TheVariants.{Char, Blank, LineEnd, Word, WordChar}
use Rattle.blanks.specs.declared.state.State.{State}
use Rattle.blanks.specs.declared.state.State.TheVariants.{Plain, AfterWord}

-- the code point of the blank that the mark is in a run, if it may stand in one
abbrev pub code : Mark → Option ℕ
code (Char c) = None
code (Blank c) = Some c
code LineEnd = Some 0x20
code Word = None
code (WordChar c) = None

-- what is left of a run, with the code points cs, where the mark stands behind it
abbrev pub before : Mark → List ℕ → List ℕ
before (Char c) cs = cs
before (Blank c) cs = cs
before LineEnd cs = cs
before Word cs = []
before (WordChar c) cs = cs

-- where the layer stands once it gave the mark
abbrev pub state_after : Mark → State
state_after (Char c) = Plain
state_after (Blank c) = Plain
state_after LineEnd = Plain
state_after Word = AfterWord
state_after (WordChar c) = AfterWord
