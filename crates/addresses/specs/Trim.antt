-- Trimming: a row of characters is freed of White_Space at its end, and never at its front.
--     kept c cs       c before what a trim has left of the characters behind it: a White_Space character stays only
--                     where some character is left
--     trim cs         the row cs, trimmed
--     ends_white cs   its last character has the property White_Space
-- Assumes nothing.
use Rattle.std.specs.Prelude.{ℕ, Bool, false, cond, List, [], ◌∷◌}
use Rattle.characters.specs.WhiteSpace.{white}

abbrev pub kept : ℕ → List ℕ → List ℕ
kept c [] = cond (white c) [] (c ∷ [])
kept c (d ∷ ds) = c ∷ d ∷ ds

unfoldable pub trim : List ℕ → List ℕ
trim [] = []
trim (c ∷ cs) = kept c (trim cs)

abbrev pub ends_white : List ℕ → Bool
ends_white [] = false
ends_white (c ∷ []) = white c
ends_white (c ∷ d ∷ ds) = ends_white (d ∷ ds)
