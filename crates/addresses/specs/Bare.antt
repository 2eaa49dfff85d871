-- Bare addresses: those that can be written without brackets.
--     begins c          c may be the first character of one
--     follows seen c    c may be a later one; seen tells whether some @ stands before it
--     follow seen cs    so may all of cs, one after the other
--     bare a            the address a is bare
-- Assumes nothing.
use Rattle.std.specs.Prelude.{ℕ, Bool, true, false, not, ◌&&◌, ◌||◌, List, [], ◌∷◌, ◌==◌}
use Rattle.characters.specs.WhiteSpace.{among, white}
use Rattle.addresses.specs.Signs.{quote, open_paren, comma, colon, semicolon, open_bracket, at_sign}
use Rattle.addresses.specs.Trim.{ends_white}

abbrev pub begins : ℕ → Bool
begins c = not (among c (comma ∷ quote ∷ open_bracket ∷ semicolon ∷ open_paren ∷ [])) && not (white c)

abbrev pub follows : Bool → ℕ → Bool
follows seen c = not (among c (open_bracket ∷ comma ∷ semicolon ∷ open_paren ∷ [])) && not (c == colon && not seen)

abbrev pub follow : Bool → List ℕ → Bool
follow seen [] = true
follow seen (c ∷ cs) = follows seen c && follow (seen || at_sign == c) cs

abbrev pub bare : List ℕ → Bool
bare [] = false
bare (c ∷ cs) = begins c && (follow (at_sign == c) cs && not (ends_white (c ∷ cs)))
