-- How many bytes a text takes.
--     byte_length cs       the bytes of the characters cs, as UTF-8
--     capped n             n, or the largest usize where n is above it; a sum that saturates is the capped sum
-- Assumes nothing.
use Rattle.std.specs.Prelude.{ℕ, ◌-◌, ◌^◌, min, List, length}
use Rattle.std.proofs.Math.Utf8.{encodes}

abbrev pub byte_length : List ℕ → ℕ
byte_length cs = length (encodes cs)

abbrev pub capped : ℕ → ℕ
capped n = min n (2 ^ 64 - 1)
