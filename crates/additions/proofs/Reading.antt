-- Bytes that the library reads as text, or that it finds ill-formed. Assumes nothing.
use Rattle.std.proofs.Common.{◌≡◌, ℕ, ◌+◌, List, ◌++◌, length, take, drop, Ok, Err, IsUtf8, sym, ap, ◌∙◌, subst, refl, arith, take-add}
use lib.Utf8.{encode}
use Rattle.std.proofs.lemmas.List.{take_at}
use Rattle.std.proofs.lemmas.Str.{IsUtf8-append, IsUtf8-encode, encodes-chars, scalars-chars, length-encode, len_utf8_bounds}
use Rattle.std.specs.Str.{chars, IsValidUpTo}
use Rattle.characters.specs.Decoding.{Stands}
use Rattle.addresses.specs.WellFormed.{characters_of}
use Rattle.addresses.proofs.Characters.{characters_found}

pub text_found : (bs : List ℕ) → IsUtf8 bs → characters_of bs ≡ Ok (chars bs)
text_found bs u = ((characters_found bs).well_formed (chars bs)).1 (scalars-chars bs u, encodes-chars bs u)

pub ill_found : (bs : List ℕ) (p : ℕ) → IsValidUpTo bs p → characters_of bs ≡ Err p
ill_found bs p v = ((characters_found bs).ill_formed p).1 (record { before = v.front; inside = v.short; none = none })
  where
    none : (c : ℕ) → Stands (drop p bs) c → ⊥
    none c (scalar, (rest, here)) =
        let n = length (encode c) in
        let one : take n (drop p bs) ≡ encode c = ap (take n) here ∙ take_at (encode c) rest n refl in
        let more : IsUtf8 (take (p + n) bs) =
        subst IsUtf8 (sym (take-add p n bs ∙ ap (λ xs. take p bs ++ xs) one)) (IsUtf8-append (take p bs) (encode c) v.front (IsUtf8-encode c scalar))
        in
        v.longest (p + n) (omega (arith, length-encode c, len_utf8_bounds c)) more
