-- The bytes of two texts in a row, and whether all their characters have some. Assumes nothing.
use Rattle.std.specs.Prelude.{◌≡◌, ℕ, ◌+◌, true, false, ◌&&◌, List, [], ◌∷◌, ◌++◌, length, refl}
use Rattle.std.proofs.Common.{sym, ap, ◌∙◌}
use Rattle.std.proofs.Math.Utf8.{scalar, scalars, encodes}
use Rattle.std.proofs.lemmas.Bool.{and_parts}
use Rattle.std.proofs.lemmas.List.{length-append}
use Rattle.std.proofs.lemmas.Str.{encodes-append}
use Rattle.writer.specs.Sizes.{byte_length}

pub byte_append : (xs ys : List ℕ) → byte_length (xs ++ ys) ≡ byte_length xs + byte_length ys
byte_append xs ys = ap length (encodes-append xs ys) ∙ length-append (encodes xs) (encodes ys)

pub scalars_append : (xs ys : List ℕ) → scalars (xs ++ ys) ≡ (scalars xs && scalars ys)
scalars_append [] ys = refl
scalars_append (x ∷ xs) ys = elim (scalar x) as (λ b. (b && scalars (xs ++ ys)) ≡ ((b && scalars xs) && scalars ys)) [ true ↦ scalars_append xs ys | false ↦ refl ]

pub scalars_both : (xs ys : List ℕ) → scalars (xs ++ ys) ≡ true → (scalars xs ≡ true) × (scalars ys ≡ true)
scalars_both xs ys s = and_parts (scalars xs) (scalars ys) (sym (scalars_append xs ys) ∙ s)
