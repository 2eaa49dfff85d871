-- What trimming keeps.
--     trim_white, trim_other    one more character at the end
--     trim_tidy                 a row that does not end with White_Space stays as it is
--     trim_first                a first character that is not White_Space stays
--     length_trim, scalars_trim, ends_trim    a trimmed row is no longer, of scalar values still, and ends with no White_Space
--     bare_tidy                 a bare address is trimmed already
--     follow_trim               what may follow in a bare address may do so trimmed
-- Assumes nothing.
use Rattle.std.proofs.Common.{◌≡◌, ℕ, ◌+◌, ◌≤◌, Bool, true, false, not, ◌&&◌, ◌||◌, eqb, List, [], ◌∷◌, ◌++◌, length, refl, ap, ◌∙◌, arith}
use lib.Utf8.{scalar, scalars}
use Rattle.std.proofs.lemmas.Bool.{and_parts, and_from, not-true, cond-true, cond-false, cond_both}
use Rattle.characters.specs.WhiteSpace.{white}
use Rattle.addresses.specs.Signs.{at_sign}
use Rattle.addresses.specs.Trim.{kept, trim, ends_white}
use Rattle.addresses.specs.Bare.{begins, follows, follow, bare}

pub trim_white : (cs : List ℕ) (c : ℕ) → white c ≡ true → trim (cs ++ c ∷ []) ≡ trim cs
unfolding trim
trim_white [] c w = cond-true (white c) [] (c ∷ []) w
trim_white (x ∷ cs) c w = ap (kept x) (trim_white cs c w)

kept_behind : (x : ℕ) (cs : List ℕ) (c : ℕ) → kept x (cs ++ c ∷ []) ≡ x ∷ cs ++ c ∷ []
kept_behind x [] c = refl
kept_behind x (y ∷ cs) c = refl

pub trim_other : (cs : List ℕ) (c : ℕ) → white c ≡ false → trim (cs ++ c ∷ []) ≡ cs ++ c ∷ []
unfolding trim
trim_other [] c w = cond-false (white c) [] (c ∷ []) w
trim_other (x ∷ cs) c w = ap (kept x) (trim_other cs c w) ∙ kept_behind x cs c

pub trim_tidy : (a : List ℕ) → ends_white a ≡ false → trim a ≡ a
unfolding trim
trim_tidy [] e = refl
trim_tidy (c ∷ []) e = cond-false (white c) [] (c ∷ []) e
trim_tidy (c ∷ d ∷ ds) e = ap (kept c) (trim_tidy (d ∷ ds) e)

ends_kept : (c : ℕ) (xs : List ℕ) → ends_white xs ≡ false → ends_white (kept c xs) ≡ false
ends_kept c [] e = cond_both (white c) [] (c ∷ []) (λ x. ends_white x ≡ false) (λ _. refl) (λ w. w)
ends_kept c (d ∷ ds) e = e

pub ends_trim : (cs : List ℕ) → ends_white (trim cs) ≡ false
unfolding trim
ends_trim [] = refl
ends_trim (c ∷ cs) = ends_kept c (trim cs) (ends_trim cs)

length_kept : (c : ℕ) (xs : List ℕ) → length (kept c xs) ≤ length xs + 1
length_kept c [] = cond_both (white c) [] (c ∷ []) (λ x. length x ≤ 0 + 1) (λ _. omega arith) (λ _. omega arith)
length_kept c (d ∷ ds) = omega arith

pub length_trim : (cs : List ℕ) → length (trim cs) ≤ length cs
unfolding trim
length_trim [] = omega arith
length_trim (c ∷ cs) = omega (arith, length_kept c (trim cs), length_trim cs)

scalars_kept : (c : ℕ) (xs : List ℕ) → scalar c ≡ true → scalars xs ≡ true → scalars (kept c xs) ≡ true
scalars_kept c [] p q = cond_both (white c) [] (c ∷ []) (λ x. scalars x ≡ true) (λ _. refl) (λ _. and_from (scalar c) true p refl)
scalars_kept c (d ∷ ds) p q = and_from (scalar c) (scalars (d ∷ ds)) p q

pub scalars_trim : (a : List ℕ) → scalars a ≡ true → scalars (trim a) ≡ true
unfolding trim
scalars_trim [] e = refl
scalars_trim (c ∷ a) e = let p = and_parts (scalar c) (scalars a) e in scalars_kept c (trim a) p.0 (scalars_trim a p.1)

follow_kept : (seen : Bool) (c : ℕ) (xs : List ℕ) → follows seen c ≡ true → follow (seen || eqb at_sign c) xs ≡ true → follow seen (kept c xs) ≡ true
follow_kept seen c [] p q = cond_both (white c) [] (c ∷ []) (λ x. follow seen x ≡ true) (λ _. refl) (λ _. and_from (follows seen c) true p refl)
follow_kept seen c (d ∷ ds) p q = and_from (follows seen c) (follow (seen || eqb at_sign c) (d ∷ ds)) p q

pub follow_trim : (seen : Bool) (cs : List ℕ) → follow seen cs ≡ true → follow seen (trim cs) ≡ true
unfolding trim
follow_trim seen [] e = refl
follow_trim seen (c ∷ cs) e =
    let p = and_parts (follows seen c) (follow (seen || eqb at_sign c) cs) e in
    follow_kept seen c (trim cs) p.0 (follow_trim (seen || eqb at_sign c) cs p.1)

-- the first character stays where it is not White_Space
kept_first : (c : ℕ) (xs : List ℕ) → white c ≡ false → kept c xs ≡ c ∷ xs
kept_first c [] e = cond-false (white c) [] (c ∷ []) e
kept_first c (d ∷ ds) e = refl

pub trim_first : (c : ℕ) (cs : List ℕ) → white c ≡ false → trim (c ∷ cs) ≡ c ∷ trim cs
unfolding trim
trim_first c cs e = kept_first c (trim cs) e

pub bare_tidy : (a : List ℕ) → bare a ≡ true → trim a ≡ a
bare_tidy [] e = trim_tidy [] refl
bare_tidy (c ∷ cs) e =
    let p = and_parts (begins c) (follow (eqb at_sign c) cs && not (ends_white (c ∷ cs))) e in
    let q = and_parts (follow (eqb at_sign c) cs) (not (ends_white (c ∷ cs))) p.1 in
    trim_tidy (c ∷ cs) (not-true (ends_white (c ∷ cs)) q.1)
