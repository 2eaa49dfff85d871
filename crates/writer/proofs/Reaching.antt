-- Sums of lengths that saturate. Assumes nothing.
use Rattle.std.proofs.Common.{◌≡◌, ℕ, ◌+◌, ◌-◌, ◌^◌, ◌<◌, arith}
use Rattle.writer.specs.Sizes.{capped}

-- a number that fits is itself
pub capped_small : (n : ℕ) → n < 2 ^ 64 → capped n ≡ n
capped_small n h = omega arith

pub capped_large : (n : ℕ) → (n < 2 ^ 64 → ⊥) → capped n ≡ 2 ^ 64 - 1
capped_large n h = omega arith

-- what `saturating_add` answers of capped numbers
pub capped_add : (m n : ℕ) → capped (capped m + capped n) ≡ capped (m + n)
capped_add m n = omega arith
