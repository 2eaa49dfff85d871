-- What trimming leaves of a row, by the place of its last character that is no White_Space.
--     blank           nothing is left of White_Space
--     upto_other      else all up to that character is left
--     trimmed_at      both
--     short_trim      a trimmed row is no longer
-- Assumes nothing.
use Rattle.std.proofs.Common.{◌≡◌, ℕ, ◌+◌, ◌<◌, true, false, List, [], ◌∷◌, Some, None, Option, MatchOption, length, get_or, suc, zero, take, sym, refl, ap, ◌∙◌, arith}
use Rattle.std.proofs.lemmas.Bool.{cond-true, cond-false, leb-true, le-leb}
use Rattle.characters.specs.WhiteSpace.{white}
use Rattle.addresses.specs.Limits.{short}
use Rattle.addresses.specs.Trim.{kept, trim}
use Rattle.addresses.proofs.Trimming.{length_trim}
use Rattle.reader.specs.Ends.{LastOther}

blank : (xs : List ℕ) → ((k : ℕ) → k < length xs → white (get_or xs k 0) ≡ true) → trim xs ≡ []
unfolding trim
blank [] h = refl
blank (c ∷ cs) h =
    let rest : trim cs ≡ [] = blank cs (λ k p. h (suc k) (omega (arith, p))) in
    ap (kept c) rest ∙ cond-true (white c) [] (c ∷ []) (h 0 (omega arith))

upto_other : (xs : List ℕ) (i : ℕ) → i < length xs → white (get_or xs i 0) ≡ false
    → ((k : ℕ) → i < k → k < length xs → white (get_or xs k 0) ≡ true) → take (suc i) xs ≡ trim xs
unfolding trim
upto_other [] i h w t = absurd (omega (arith, h))
upto_other (c ∷ cs) zero h w t =
    let rest : trim cs ≡ [] = blank cs (λ k p. t (suc k) (omega arith) (omega (arith, p))) in
    sym (ap (kept c) rest ∙ cond-false (white c) [] (c ∷ []) w)
upto_other (c ∷ []) (suc i) h w t = absurd (omega (arith, h))
upto_other (c ∷ d ∷ cs) (suc i) h w t =
    ap (kept c) (upto_other (d ∷ cs) i (omega (arith, h)) w (λ k p q. t (suc k) (omega (arith, p)) (omega (arith, q))))

-- what is kept
pub trimmed_at : (xs : List ℕ) (r : Option ℕ) (n : ℕ) → LastOther xs r → MatchOption r (n ≡ 0) (λ i. n ≡ i + 1) → take n xs ≡ trim xs
trimmed_at xs None n l m = ap (λ k. take k xs) m ∙ sym (blank xs l)
trimmed_at xs (Some i) n l m = let e : n ≡ suc i = omega (arith, m) in ap (λ k. take k xs) e ∙ upto_other xs i l.0 l.1 l.2

pub short_trim : (xs : List ℕ) → short xs ≡ true → short (trim xs) ≡ true
short_trim xs h = le-leb (length (trim xs)) 2000 (omega (arith, length_trim xs, leb-true (length xs) 2000 h))
