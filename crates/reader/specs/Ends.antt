-- The end of a row of characters.
--     LastOther xs r    r is the place of the last character of xs that is no White_Space, if there is one
-- Assumes nothing.
use Rattle.std.specs.Prelude.{◌≡◌, ℕ, ◌<◌, true, false, List, length, slice_index, Some, None, Option, EachIndex}
use Rattle.characters.specs.WhiteSpace.{white}

abbrev pub LastOther : List ℕ → Option ℕ → Type 0
LastOther xs None = EachIndex xs (λ k. white (slice_index xs k) ≡ true)
LastOther xs (Some i) = (i < length xs) × (white (slice_index xs i) ≡ false) × ((k : ℕ) → i < k → k < length xs → white (slice_index xs k) ≡ true)
