-- What the encoder answers for a scalar value: four bytes, at whose front its encoding stands, and how many those are. Assumes nothing.
use Rattle.std.proofs.Common.{◌≡◌, ℕ, ◌≤◌, true, List, [], ◌∷◌, ◌++◌, length, take, Some, sym, refl, ap, ◌∙◌, arith}
use lib.Utf8.{scalar, encode}
use Rattle.std.proofs.lemmas.Bool.{cond-true}
use Rattle.std.proofs.lemmas.Option.{cond_some}
use Rattle.std.proofs.lemmas.List.{length-append, length-take-le, take-take, take_at}
use Rattle.std.proofs.lemmas.Str.{length-encode, len_utf8_bounds}
use Rattle.characters.specs.Encoding.{padded, encoded}

module _ (c : ℕ) (found : List ℕ × ℕ) (s : scalar c ≡ true) (e : Some found ≡ encoded c) where
  found_is : found ≡ (padded (encode c), length (encode c))
  found_is = let both : Some found ≡ Some (padded (encode c), length (encode c)) = e ∙ cond-true _ _ _ s in cc

  few : length (encode c) ≤ 4
  few = omega (arith, length-encode c, len_utf8_bounds c)

  pub found_inside : found.1 ≤ length found.0
  found_inside =
      let zeros : List ℕ = 0 ∷ 0 ∷ 0 ∷ 0 ∷ [] in
      let long : 4 ≤ length (encode c ++ zeros) = omega (arith, length-append (encode c) zeros) in
      let four : length (padded (encode c)) ≡ 4 = length-take-le 4 (encode c ++ zeros) long in
      let count : found.1 ≡ length (encode c) = ap (λ f. f.1) found_is in
      let size : length found.0 ≡ length (padded (encode c)) = ap (λ f. length f.0) found_is in
      omega (arith, few)

  pub found_bytes : take found.1 found.0 ≡ encode c
  found_bytes =
      let zeros : List ℕ = 0 ∷ 0 ∷ 0 ∷ 0 ∷ [] in
      ap (λ f. take f.1 f.0) found_is ∙ take-take (length (encode c)) 4 (encode c ++ zeros) few ∙ take_at (encode c) zeros (length (encode c)) refl

  pub found_length : found.1 ≡ length (take found.1 found.0)
  found_length = ap (λ f. f.1) found_is ∙ sym (ap length found_bytes)

-- it answers nothing for any other number
pub found_scalar : (c : ℕ) (found : List ℕ × ℕ) → Some found ≡ encoded c → scalar c ≡ true
found_scalar c found e = (cond_some (scalar c) (padded (encode c), length (encode c)) found (sym e)).0
