-- The bytes of a character, in a row of four. Assumes nothing.
use Rattle.std.specs.Prelude.{ℕ, cond, List, [], ◌∷◌, ◌++◌, length, take, Some, None, Option}
use Rattle.std.proofs.Math.Utf8.{scalar, encode}

-- zeros behind the bytes, up to four
abbrev pub padded : List ℕ → List ℕ
padded bs = take 4 (bs ++ 0 ∷ 0 ∷ 0 ∷ 0 ∷ [])

-- the bytes of the character c and their number; nothing where c is none
abbrev pub encoded : ℕ → Option (List ℕ × ℕ)
encoded c = cond (scalar c) (Some (padded (encode c), length (encode c))) None
