-- The property White_Space of Unicode.
--     points        the 25 code points that have it
--     white c       c is one of them
--     ranges        the same as rows of neighbours, each by its first and its last
--     RangesHold    the rows hold just those code points
-- Assumes nothing.
use Rattle.std.specs.Prelude.{◌≡◌, ℕ, Bool, false, ◌&&◌, ◌||◌, List, [], ◌∷◌, ◌==◌, nat_le}

abbrev pub points : List ℕ
points =
    0x0009 ∷ 0x000a ∷ 0x000b ∷ 0x000c ∷ 0x000d ∷ 0x0020 ∷ 0x0085 ∷ 0x00a0 ∷ 0x1680
    ∷ 0x2000 ∷ 0x2001 ∷ 0x2002 ∷ 0x2003 ∷ 0x2004 ∷ 0x2005 ∷ 0x2006 ∷ 0x2007 ∷ 0x2008 ∷ 0x2009 ∷ 0x200a
    ∷ 0x2028 ∷ 0x2029 ∷ 0x202f ∷ 0x205f ∷ 0x3000 ∷ []

abbrev pub among : ℕ → List ℕ → Bool
among c [] = false
among c (p ∷ ps) = c == p || among c ps

unfoldable pub white : ℕ → Bool
white c = among c points

abbrev pub ranges : List (ℕ × ℕ)
ranges =
    (0x0009, 0x000d) ∷ (0x0020, 0x0020) ∷ (0x0085, 0x0085) ∷ (0x00a0, 0x00a0) ∷ (0x1680, 0x1680)
    ∷ (0x2000, 0x200a) ∷ (0x2028, 0x2029) ∷ (0x202f, 0x202f) ∷ (0x205f, 0x205f) ∷ (0x3000, 0x3000) ∷ []

-- some row holds c
abbrev pub held : ℕ → List (ℕ × ℕ) → Bool
held c [] = false
held c (r ∷ rs) = (nat_le r.0 c && nat_le c r.1) || held c rs

abbrev pub RangesHold : Type 0
RangesHold = (c : ℕ) → held c ranges ≡ white c
