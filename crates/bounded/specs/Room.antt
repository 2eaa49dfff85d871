-- How much a list of bounded length holds.
--     fits n xs    xs has at most n elements
-- Assumes nothing.
use Rattle.std.specs.Prelude.{ℕ, Bool, List, length, nat_le}

abbrev pub fits : {X : Type 0} → ℕ → List X → Bool
fits n xs = nat_le (length xs) n
