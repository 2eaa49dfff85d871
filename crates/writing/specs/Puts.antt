-- Putting a text at a place of a buffer, where a refusal may leave a part of it there.
--     Puts b at cs r c   the characters cs were put into the buffer b at the place at, which left it as c: r is the place behind
--                        their bytes; or they were refused, and then one of them is no scalar value, or b has no room for them
-- Assumes nothing.
use Rattle.std.specs.Prelude.{◌≡◌, ℕ, ◌+◌, ◌≤◌, true, List, length, Some, None, Option}
use Rattle.std.proofs.Math.Utf8.{scalars, encodes}
use Rattle.writer.specs.Sizes.{byte_length}
use Rattle.writer.specs.Placing.{Lays}

abbrev pub Puts : List ℕ → ℕ → List ℕ → Option ℕ → List ℕ → Type 0
Puts b at cs (Some q) c = (scalars cs ≡ true) × Lays b at (encodes cs) c q
Puts b at cs None c = scalars cs ≡ true → at + byte_length cs ≤ length b → ⊥
