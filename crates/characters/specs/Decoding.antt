-- What character stands at the front of a row of bytes, by RFC 3629.
--     Stands bs c       the character c stands at the front of bs: it is a scalar value, and its encoding comes first
--     Front bs r        r is what stands at the front of bs, with the number of its bytes, or no character stands there
--     decoded bs        the same, as it is computed from the bytes
--     DecodingStands    decoded finds what stands there, both ways
-- `scalar` and `encode` are the kit's table of the standard. Assumes nothing.
use Rattle.std.specs.Prelude.{◌≡◌, ℕ, zero, suc, ◌+◌, ◌-◌, ◌*◌, true, cond, ◌&&◌, List, [], ◌∷◌, ◌++◌, length, Some, None, Option, nat_le, nat_lt, slice_index}
use Rattle.std.proofs.Math.Utf8.{scalar, encode}

abbrev pub Stands : List ℕ → ℕ → Type 0
Stands bs c = (scalar c ≡ true) × ((rest : List ℕ) × (bs ≡ encode c ++ rest))

abbrev pub Front : List ℕ → Option (ℕ × ℕ) → Type 0
Front bs (Some p) = Stands bs p.0 × (p.1 ≡ length (encode p.0))
Front bs None = (c : ℕ) → Stands bs c → ⊥

-- the six bits of the continuation byte at k; past the end there is none, and 0 is no such byte
abbrev pub six : List ℕ → ℕ → Option ℕ
six bs k = cond (nat_le 128 (slice_index bs k) && nat_lt (slice_index bs k) 192) (Some (slice_index bs k - 128)) None

-- six bits more, if both are there
abbrev pub joined : Option ℕ → Option ℕ → Option ℕ
joined None x = None
joined (Some h) None = None
joined (Some h) (Some x) = Some (h * 64 + x)

-- the bits h of the first byte, and those of the n continuation bytes behind it, if they are there
abbrev pub bits : ℕ → List ℕ → ℕ → Option ℕ
bits h bs zero = Some h
bits h bs (suc n) = joined (bits h bs n) (six bs (suc n))

-- a character of n bytes: at least the least value that wants so many, and no surrogate, nor above U+10FFFF
abbrev pub checked : ℕ → ℕ → Option ℕ → Option (ℕ × ℕ)
checked n least None = None
checked n least (Some c) = cond (nat_le least c && scalar c) (Some (c, n)) None

-- the characters of two, three and four bytes, by the bits h of the first and the continuation bytes of bs
abbrev pub of_two : ℕ → List ℕ → Option (ℕ × ℕ)
of_two h bs = checked 2 128 (bits h bs 1)

abbrev pub of_three : ℕ → List ℕ → Option (ℕ × ℕ)
of_three h bs = checked 3 2048 (bits h bs 2)

abbrev pub of_four : ℕ → List ℕ → Option (ℕ × ℕ)
of_four h bs = checked 4 65536 (bits h bs 3)

-- by the first byte b of bs: its leading one bits, which its range tells, say how many bytes the character has
abbrev pub by_lead : ℕ → List ℕ → Option (ℕ × ℕ)
by_lead b bs =
    cond (nat_lt b 128) (Some (b, 1))
    (cond (nat_lt b 192) None
    (cond (nat_lt b 224) (of_two (b - 192) bs)
    (cond (nat_lt b 240) (of_three (b - 224) bs)
    (cond (nat_lt b 248) (of_four (b - 240) bs) None))))

unfoldable pub decoded : List ℕ → Option (ℕ × ℕ)
decoded [] = None
decoded (b ∷ bs) = by_lead b (b ∷ bs)

abbrev pub DecodingStands : Type 0
DecodingStands = (bs : List ℕ) → Front bs (decoded bs)
