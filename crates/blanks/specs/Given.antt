-- What the blank layer gives of a row of marks, and how it closes.
--     Place          where a mark stands: outside a run, or inside one, after the blanks that are its code points so far;
--                    directly after a Word or a word character stands `inside []`
--     Given          the marks that are given, and whether a run above 1,000 marks then ends all
--     giving p ms    what is given of ms, the first of which stands at p
--     given ms       the marks that are given of the whole row ms
--     closed ms c    how the layer closes, where ms wait below and c closes there
-- Assumes nothing.
use Rattle.std.specs.Prelude.{ℕ, min, Bool, true, false, cond, List, [], ◌∷◌, ◌++◌, map, length, nat_lt, Err}
use Rattle.marks.specs.Faults.{fault_of}
use Rattle.marks.specs.declared.mark.Mark.{Mark}
use Rattle.marks.specs.declared.mark.Mark.TheVariants.{Char, Blank, LineEnd, Word, WordChar}
use Rattle.marks.specs.declared.fault.Fault.{Fault}
use Rattle.marks.specs.declared.fault.Layer.TheVariants.{Blanks}
use Rattle.marks.specs.declared.fault.Ground.TheVariants.{LongRun}
use Rattle.marks.specs.Gives.{Close}

pub data Place : Type 0 where
  outside : Place
  inside : List ℕ → Place

-- where the mark behind m stands
abbrev pub after : Mark → Place
after (Char c) = outside
after (Blank c) = outside
after LineEnd = outside
after Word = inside []
after (WordChar c) = inside []

-- a mark outside a run as it is given: a line end becomes a space
abbrev pub flat : Mark → Mark
flat (Char c) = Char c
flat (Blank c) = Blank c
flat LineEnd = Blank 0x20
flat Word = Word
flat (WordChar c) = WordChar c

pub record Given : Type 0 where
  pub marks : List Mark
  pub long : Bool

-- nothing, since a run is too long
abbrev pub run_too_long : Given
run_too_long = record { marks = []; long = true }

-- ms, up to the close below
abbrev pub ending : List Mark → Given
ending ms = record { marks = ms; long = false }

-- ms, and then g
abbrev pub these : List Mark → Given → Given
these ms g = record { marks = ms ++ g.marks; long = g.long }

abbrev pub blanks : List ℕ → List Mark
blanks cs = map Blank cs

abbrev pub giving : Place → List Mark → Given
giving outside [] = ending []
giving outside (m ∷ ms) = these (flat m ∷ []) (giving (after m) ms)
giving (inside cs) [] = ending (blanks cs)
giving (inside cs) (Char c ∷ ms) = these (blanks cs) (these (Char c ∷ []) (giving outside ms))
giving (inside cs) (Blank c ∷ ms) = cond (nat_lt (length cs) 1000) (giving (inside (cs ++ c ∷ [])) ms) run_too_long
giving (inside cs) (LineEnd ∷ ms) = cond (nat_lt (length cs) 1000) (giving (inside (cs ++ 0x20 ∷ [])) ms) run_too_long
giving (inside cs) (Word ∷ ms) = these (Word ∷ []) (giving (inside []) ms)
giving (inside cs) (WordChar c ∷ ms) = these (blanks cs) (these (WordChar c ∷ []) (giving (inside []) ms))

abbrev pub given : List Mark → List Mark
given ms = (giving outside ms).marks

-- the fault of a long run, where the layer gave n marks before
abbrev pub long_run : ℕ → Fault
long_run n = fault_of Blanks LongRun (min n 4294967295)

abbrev pub closed : List Mark → Close → Close
closed ms c = cond (giving outside ms).long (Err (long_run (length (given ms)))) c
