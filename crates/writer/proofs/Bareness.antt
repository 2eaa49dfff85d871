-- What makes an address bare, by its first character, its last one and those behind the first. Assumes nothing.
--     ends_by_last    an address ends in white space where its last character is white space
--     bare_by         the same and the other tests, by places
use Rattle.std.proofs.Common.{◌≡◌, ℕ, ◌-◌, ◌<◌, not, ◌&&◌, eqb, List, [], ◌∷◌, length, get_or, take, drop, Some, None, Option, sym, refl, ap, ◌∙◌, Bor, arith}
use Rattle.std.proofs.lemmas.List.{take_rest}
use Rattle.std.specs.List.{slice_get}
use Rattle.std.specs.Option.{option_copied, unwrap_or}
use Rattle.characters.specs.WhiteSpace.{white}
use Rattle.addresses.specs.Signs.{at_sign}
use Rattle.addresses.specs.Trim.{ends_white}
use Rattle.addresses.specs.Bare.{begins, follow, bare}

at_last : (c : ℕ) (cs : List ℕ) (o : Option ℕ) → o ≡ slice_get (c ∷ cs) (length cs) → (v : ℕ) × (o ≡ Some v) × (ends_white (c ∷ cs) ≡ white v)
at_last c [] o e = (c, e, refl)
at_last c (d ∷ ds) o e = at_last d ds o e

-- o is the last of those behind the first character f
pub ends_by_last : (f : Bor ℕ) (cs : List ℕ) (o : Option (Bor ℕ)) → option_copied o ≡ slice_get cs (length cs - 1) → ends_white (f.now ∷ cs) ≡ white (unwrap_or o f).now
ends_by_last f [] None e = refl
ends_by_last f [] (Some x) e = cc
ends_by_last f (d ∷ ds) o e = by o (at_last d ds (option_copied o) (e ∙ ap (slice_get (d ∷ ds)) place))
  where
    place : length (d ∷ ds) - 1 ≡ length ds
    place = omega arith

    by : (o : Option (Bor ℕ)) → ((v : ℕ) × (option_copied o ≡ Some v) × (ends_white (d ∷ ds) ≡ white v)) → ends_white (d ∷ ds) ≡ white (unwrap_or o f).now
    by None (v, e, w) = cc
    by (Some x) (v, e, w) = let same : v ≡ x.now = cc in w ∙ ap white same

-- ── by places ──

last_place : (c : ℕ) (cs : List ℕ) → ends_white (c ∷ cs) ≡ white (get_or (c ∷ cs) (length cs) 0)
last_place c [] = refl
last_place c (d ∷ ds) = last_place d ds

pub bare_by : (a : List ℕ) → 0 < length a
    → bare a ≡ (begins (get_or a 0 0) && (follow (eqb at_sign (get_or a 0 0)) (take (length a - 1) (drop 1 a)) && not (white (get_or a (length a - 1) 0))))
bare_by [] h = absurd (omega arith)
bare_by (c ∷ cs) h =
    let last : length (c ∷ cs) - 1 ≡ length cs = omega arith in
    ap (λ b. begins c && (follow (eqb at_sign c) cs && not b)) (last_place c cs ∙ ap (λ k. white (get_or (c ∷ cs) k 0)) (sym last))
    ∙ ap (λ l. begins c && (follow (eqb at_sign c) l && not (white (get_or (c ∷ cs) (length (c ∷ cs) - 1) 0)))) (sym (take_rest (c ∷ cs) 1))
