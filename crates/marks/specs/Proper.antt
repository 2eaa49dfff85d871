-- Which marks are proper: each code point is a Unicode scalar value, and that of a Blank has the property White_Space.
-- The lemmas say what stays proper. Assumes nothing.
use Rattle.std.specs.Prelude.{◌≡◌, Bool, true, ◌&&◌, List, [], ◌∷◌, ◌++◌}
use Rattle.std.proofs.Math.Utf8.{scalar}
use Rattle.characters.specs.WhiteSpace.{white}
use Rattle.std.proofs.lemmas.Bool.{and_parts, and_from}
use Rattle.marks.specs.declared.mark.Mark.{Mark}
use Rattle.marks.specs.declared.mark.Mark.TheVariants.{Char, Blank, LineEnd, Word, WordChar}

abbrev pub proper : Mark → Bool
proper (Char c) = scalar c
proper (Blank c) = white c
proper LineEnd = true
proper Word = true
proper (WordChar c) = scalar c

abbrev pub all_proper : List Mark → Bool
all_proper [] = true
all_proper (m ∷ ms) = proper m && all_proper ms

abbrev pub AllProper : List Mark → Type 0
AllProper ms = all_proper ms ≡ true

pub proper-++ : (ms ns : List Mark) → AllProper ms → AllProper ns → AllProper (ms ++ ns)
proper-++ [] ns p q = q
proper-++ (m ∷ ms) ns p q =
    let h = and_parts (proper m) (all_proper ms) p in
    and_from (proper m) (all_proper (ms ++ ns)) h.0 (proper-++ ms ns h.1 q)
