-- What a row of bytes gives, character by character, where f says which mark a character gives, or why it gives none.
-- Assumes nothing.
use Rattle.std.specs.Prelude.{ℕ, zero, suc, ◌+◌, ◌-◌, List, [], ◌∷◌, Some, None, Ok, Err, Option, Result}
use Rattle.characters.specs.Decoding.{decoded}
use Rattle.marks.specs.declared.mark.Mark.{Mark}
use Rattle.marks.specs.declared.fault.Fault.{Fault}
use Rattle.marks.specs.Faults.{ill_formed}
use Rattle.marks.specs.Streams.{Stream, ended, broken, begins}

abbrev pub first : Result Mark Fault → Stream → Stream
first (Ok m) s = begins (m ∷ []) s
first (Err e) s = broken e

-- at the byte p stands this character, if any, and the rest goes on behind its bytes
abbrev pub letter : (ℕ → Result Mark Fault) → ℕ → Option (ℕ × ℕ) → (ℕ → Stream) → Stream
letter f p None rest = broken (ill_formed p)
letter f p (Some d) rest = first (f d.0) (rest d.1)

-- from the byte p on, of which the first k belong to the character before
unfoldable pub spelled : (ℕ → Result Mark Fault) → ℕ → ℕ → List ℕ → Stream
spelled f p k [] = ended
spelled f p zero (b ∷ bs) = letter f p (decoded (b ∷ bs)) (λ n. spelled f (p + 1) (n - 1) bs)
spelled f p (suc k) (b ∷ bs) = spelled f (p + 1) k bs
