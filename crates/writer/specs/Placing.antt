-- Putting a text at a place of a buffer.
--     spelt cs          the bytes of the characters cs; none where one of them is no scalar value
--     laid b at t       the buffer b with the bytes t from the place at on, and everything before and behind them as it was
--     behind n at t     the place behind them, if a buffer of n bytes has room for them there; none where there are no bytes to put
--     placed b at t     what the buffer b then holds; it is as it was where there is no room or nothing to put
--     Lays b at t c q   c is the buffer b with the bytes t from the place at on, where it has room for them, and q the place behind
-- Assumes nothing.
use Rattle.std.specs.Prelude.{◌≡◌, ℕ, ◌+◌, ◌≤◌, cond, List, ◌++◌, length, take, drop, Some, None, Option, nat_le}
use Rattle.std.proofs.Math.Utf8.{scalars, encodes}

abbrev pub spelt : List ℕ → Option (List ℕ)
spelt cs = cond (scalars cs) (Some (encodes cs)) None

abbrev pub laid : List ℕ → ℕ → List ℕ → List ℕ
laid b at t = take at b ++ (t ++ drop (at + length t) b)

abbrev pub behind : ℕ → ℕ → Option (List ℕ) → Option ℕ
behind n at None = None
behind n at (Some t) = cond (nat_le (at + length t) n) (Some (at + length t)) None

abbrev pub placed : List ℕ → ℕ → Option (List ℕ) → List ℕ
placed b at None = b
placed b at (Some t) = cond (nat_le (at + length t) (length b)) (laid b at t) b

pub record Lays (b : List ℕ) (at : ℕ) (t : List ℕ) (c : List ℕ) (q : ℕ) : Type 0 where
  pub bytes : c ≡ laid b at t
  pub place : q ≡ at + length t
  pub inside : at + length t ≤ length b
