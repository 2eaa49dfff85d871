-- What `decoded` finds at the front of a row of bytes stands there, and what stands there it finds.
--     decoded_encode    a scalar value's encoding is decoded, whatever follows it
--     decoded_sound     what is decoded encodes back to just those bytes
--     decoded_none      where nothing is decoded, no character stands
--     decoded_ascii, decoded_ascii_at    a byte below 128 is its own character
--     encode_one .. encode_four          the encoding of a character, by its length
-- Assumes nothing.
use Rattle.std.proofs.Common.{◌≡◌, ℕ, zero, suc, ◌+◌, ◌-◌, ◌*◌, ◌/◌, ◌%◌, ◌<◌, ◌≤◌, Bool, true, false, ◌&&◌, ltb, leb, ◌⊎◌, List, [], ◌∷◌, ◌++◌, length, get_or, slice_get, take, drop, Some, None, Option, sym, refl, ap, ◌∙◌, subst, inl, inr, ⊎_elim, arith, take-append-drop, length-take, drop-cons, take-suc}
use lib.ListN.{get_or-eq_default}
use lib.Utf8.{scalar, encode, next, scalar_cases, low_scalar}
use Rattle.std.proofs.lemmas.Bool.{and_parts, and_from, cases_lt, cond-true, cond-false, cond_both, ltb-true, leb-true, le-leb, lt-ltb, le-ltb}
use Rattle.std.proofs.lemmas.Option.{none-some, same_Some, cond_some}
use Rattle.characters.specs.Decoding.{Stands, Front, six, joined, bits, checked, of_two, of_three, of_four, by_lead, decoded, DecodingStands}

-- ---- the encodings, by their lengths

pub encode_one : (c : ℕ) → c < 128 → encode c ≡ c ∷ []
unfolding encode
encode_one c h = cond-true _ _ _ (lt-ltb c 128 h)

pub encode_two : (c : ℕ) → 128 ≤ c → c < 2048 → encode c ≡ (192 + c / 64) ∷ next c ∷ []
unfolding encode
encode_two c l h = cond-false _ _ _ (le-ltb c 128 l) ∙ cond-true _ _ _ (lt-ltb c 2048 h)

pub encode_three : (c : ℕ) → 2048 ≤ c → c < 65536 → encode c ≡ (224 + c / 4096) ∷ next (c / 64) ∷ next c ∷ []
unfolding encode
encode_three c l h = cond-false _ _ _ (le-ltb c 128 (omega arith)) ∙ cond-false _ _ _ (le-ltb c 2048 l) ∙ cond-true _ _ _ (lt-ltb c 65536 h)

pub encode_four : (c : ℕ) → 65536 ≤ c → encode c ≡ (240 + c / 262144) ∷ next (c / 4096) ∷ next (c / 64) ∷ next c ∷ []
unfolding encode
encode_four c l =
    cond-false _ _ _ (le-ltb c 128 (omega arith)) ∙ cond-false _ _ _ (le-ltb c 2048 (omega arith)) ∙ cond-false _ _ _ (le-ltb c 65536 l)

-- no encoding is empty
encode_some : (c : ℕ) → 1 ≤ length (encode c)
unfolding encode
encode_some c =
    let some : List ℕ → Type 0 = λ bs. 1 ≤ length bs in
    cond_both (ltb c 128) _ _ some (λ _. omega arith) (λ _.
    cond_both (ltb c 2048) _ _ some (λ _. omega arith) (λ _. cond_both (ltb c 65536) _ _ some (λ _. omega arith) (λ _. omega arith)))

-- ---- the first byte's range picks the length

pub lead_one : (b : ℕ) (bs : List ℕ) → b < 128 → by_lead b bs ≡ Some (b, 1)
lead_one b bs h = cond-true _ _ _ (lt-ltb b 128 h)

pub lead_two : (b : ℕ) (bs : List ℕ) → 192 ≤ b → b < 224 → by_lead b bs ≡ of_two (b - 192) bs
lead_two b bs l h =
    cond-false _ _ _ (le-ltb b 128 (omega arith)) ∙ cond-false _ _ _ (le-ltb b 192 l) ∙ cond-true _ _ _ (lt-ltb b 224 h)

pub lead_three : (b : ℕ) (bs : List ℕ) → 224 ≤ b → b < 240 → by_lead b bs ≡ of_three (b - 224) bs
lead_three b bs l h =
    cond-false _ _ _ (le-ltb b 128 (omega arith)) ∙ cond-false _ _ _ (le-ltb b 192 (omega arith)) ∙ cond-false _ _ _ (le-ltb b 224 l)
    ∙ cond-true _ _ _ (lt-ltb b 240 h)

pub lead_four : (b : ℕ) (bs : List ℕ) → 240 ≤ b → b < 248 → by_lead b bs ≡ of_four (b - 240) bs
lead_four b bs l h =
    cond-false _ _ _ (le-ltb b 128 (omega arith)) ∙ cond-false _ _ _ (le-ltb b 192 (omega arith)) ∙ cond-false _ _ _ (le-ltb b 224 (omega arith))
    ∙ cond-false _ _ _ (le-ltb b 240 l) ∙ cond-true _ _ _ (lt-ltb b 248 h)

pub lead_none : (b : ℕ) (bs : List ℕ) → 128 ≤ b → (b < 192) ⊎ (248 ≤ b) → by_lead b bs ≡ None
lead_none b bs l (inl h) = cond-false _ _ _ (le-ltb b 128 l) ∙ cond-true _ _ _ (lt-ltb b 192 h)
lead_none b bs l (inr h) =
    cond-false _ _ _ (le-ltb b 128 l) ∙ cond-false _ _ _ (le-ltb b 192 (omega arith)) ∙ cond-false _ _ _ (le-ltb b 224 (omega arith))
    ∙ cond-false _ _ _ (le-ltb b 240 (omega arith)) ∙ cond-false _ _ _ (le-ltb b 248 h)

-- ---- an encoding is decoded

-- a continuation byte gives its six bits back
six_next : (bs : List ℕ) (k bits : ℕ) → get_or bs k 0 ≡ next bits → six bs k ≡ Some (bits % 64)
six_next bs k bits e =
    cond-true _ _ _ (and_from _ _ (le-leb 128 (get_or bs k 0) (omega arith)) (lt-ltb (get_or bs k 0) 192 (omega arith)))
    ∙ ap Some (let d : get_or bs k 0 - 128 ≡ bits % 64 = omega arith in d)

checked_scalar : (n least c d : ℕ) → d ≡ c → least ≤ c → scalar c ≡ true → checked n least (Some d) ≡ Some (c, n)
checked_scalar n least c d e l s = rw e (cond-true _ _ _ (and_from _ _ (le-leb least c l) s))

pub decoded_ascii : (b : ℕ) (bs : List ℕ) → b < 128 → decoded (b ∷ bs) ≡ Some (b, 1)
unfolding decoded
decoded_ascii b bs h = lead_one b (b ∷ bs) h

module _ (c : ℕ) (rest : List ℕ) (s : scalar c ≡ true) where
  found_two : 128 ≤ c → c < 2048 → decoded ((192 + c / 64) ∷ next c ∷ rest) ≡ Some (c, 2)
  unfolding decoded
  found_two l h =
      let bs : List ℕ = (192 + c / 64) ∷ next c ∷ rest in
      let x = six_next bs 1 c refl in
      let whole : (192 + c / 64 - 192) * 64 + c % 64 ≡ c = omega arith in
      lead_two (192 + c / 64) bs (omega arith) (omega arith) ∙ rw x (checked_scalar 2 128 c _ whole l s)

  found_three : 2048 ≤ c → c < 65536 → decoded ((224 + c / 4096) ∷ next (c / 64) ∷ next c ∷ rest) ≡ Some (c, 3)
  unfolding decoded
  found_three l h =
      let bs : List ℕ = (224 + c / 4096) ∷ next (c / 64) ∷ next c ∷ rest in
      let x = six_next bs 1 (c / 64) refl in
      let y = six_next bs 2 c refl in
      let whole : ((224 + c / 4096 - 224) * 64 + c / 64 % 64) * 64 + c % 64 ≡ c = omega arith in
      lead_three (224 + c / 4096) bs (omega arith) (omega arith) ∙ rw (x, y) (checked_scalar 3 2048 c _ whole l s)

  found_four : 65536 ≤ c → c < 1114112 → decoded ((240 + c / 262144) ∷ next (c / 4096) ∷ next (c / 64) ∷ next c ∷ rest) ≡ Some (c, 4)
  unfolding decoded
  found_four l h =
      let bs : List ℕ = (240 + c / 262144) ∷ next (c / 4096) ∷ next (c / 64) ∷ next c ∷ rest in
      let x = six_next bs 1 (c / 4096) refl in
      let y = six_next bs 2 (c / 64) refl in
      let z = six_next bs 3 c refl in
      let whole : (((240 + c / 262144 - 240) * 64 + c / 4096 % 64) * 64 + c / 64 % 64) * 64 + c % 64 ≡ c = omega arith in
      lead_four (240 + c / 262144) bs (omega arith) (omega arith) ∙ rw (x, y, z) (checked_scalar 4 65536 c _ whole l s)

  scalar_below : c < 1114112
  scalar_below = ⊎_elim (λ h. omega arith) (λ h. h.1) (scalar_cases c s)

  pub decoded_encode : decoded (encode c ++ rest) ≡ Some (c, length (encode c))
  decoded_encode = by_one (cases_lt c 128)
    where
      by_three : 2048 ≤ c → (c < 65536) ⊎ (65536 ≤ c) → decoded (encode c ++ rest) ≡ Some (c, length (encode c))
      by_three l (inl h) = rw (encode_three c l h) (found_three l h)
      by_three l (inr h) = rw (encode_four c h) (found_four h scalar_below)

      by_two : 128 ≤ c → (c < 2048) ⊎ (2048 ≤ c) → decoded (encode c ++ rest) ≡ Some (c, length (encode c))
      by_two l (inl h) = rw (encode_two c l h) (found_two l h)
      by_two l (inr h) = by_three h (cases_lt c 65536)

      by_one : (c < 128) ⊎ (128 ≤ c) → decoded (encode c ++ rest) ≡ Some (c, length (encode c))
      by_one (inl h) = rw (encode_one c h) (decoded_ascii c rest h)
      by_one (inr h) = by_two h (cases_lt c 2048)

-- ---- what is decoded was encoded

-- past the end there is 0, which is no continuation byte
within : (bs : List ℕ) (k : ℕ) → 0 < get_or bs k 0 → k < length bs
within bs k h = ⊎_elim (λ l. l) (λ l. absurd (omega (arith, get_or-eq_default bs 0 l))) (cases_lt k (length bs))

pub six_parts : (bs : List ℕ) (k x : ℕ) → six bs k ≡ Some x → (get_or bs k 0 ≡ 128 + x) × (x < 64) × (k < length bs)
six_parts bs k x e =
    let b : ℕ = get_or bs k 0 in
    let t = cond_some (leb 128 b && ltb b 192) (b - 128) x e in
    let both = and_parts (leb 128 b) (ltb b 192) t.0 in
    let low = leb-true 128 b both.0 in
    let high = ltb-true b 192 both.1 in
    (omega (arith, t.1), omega (arith, t.1), within bs k (omega arith))

joined_parts : (o q : Option ℕ) (v : ℕ) → joined o q ≡ Some v → (h : ℕ) × (x : ℕ) × (o ≡ Some h) × (q ≡ Some x) × (v ≡ h * 64 + x)
joined_parts None q v e = absurd (none-some v e)
joined_parts (Some h) None v e = absurd (none-some v e)
joined_parts (Some h) (Some x) v e = (h, x, refl, refl, sym (same_Some (h * 64 + x) v e))

checked_parts : (n least : ℕ) (o : Option ℕ) (c m : ℕ) → checked n least o ≡ Some (c, m) → (o ≡ Some c) × (m ≡ n) × (least ≤ c) × (scalar c ≡ true)
checked_parts n least None c m e = absurd (none-some (c, m) e)
checked_parts n least (Some v) c m e =
    let t = cond_some (leb least v && scalar v) (v, n) (c, m) e in
    let both = and_parts (leb least v) (scalar v) t.0 in
    let same : v ≡ c = ap (λ p. p.0) t.1 in
    (ap Some same, sym (ap (λ p. p.1) t.1), subst (λ x. least ≤ x) same (leb-true least v both.0), subst (λ x. scalar x ≡ true) same both.1)

first_two : (bs : List ℕ) → 1 < length bs → take 2 bs ≡ get_or bs 0 0 ∷ get_or bs 1 0 ∷ []
first_two bs h = take-suc bs 1 0 h ∙ ap (λ p. p ++ get_or bs 1 0 ∷ []) (take-suc bs 0 0 (omega arith))

first_three : (bs : List ℕ) → 2 < length bs → take 3 bs ≡ get_or bs 0 0 ∷ get_or bs 1 0 ∷ get_or bs 2 0 ∷ []
first_three bs h = take-suc bs 2 0 h ∙ ap (λ p. p ++ get_or bs 2 0 ∷ []) (first_two bs (omega arith))

first_four : (bs : List ℕ) → 3 < length bs → take 4 bs ≡ get_or bs 0 0 ∷ get_or bs 1 0 ∷ get_or bs 2 0 ∷ get_or bs 3 0 ∷ []
first_four bs h = take-suc bs 3 0 h ∙ ap (λ p. p ++ get_or bs 3 0 ∷ []) (first_three bs (omega arith))

-- the first n bytes of bs are those of the character c
abbrev Begins : List ℕ → ℕ → ℕ → Type 0
Begins bs c n = (scalar c ≡ true) × (n ≡ length (encode c)) × (take n bs ≡ encode c)

module _ (bs : List ℕ) (c n : ℕ) where
  begins_two : 192 ≤ get_or bs 0 0 → get_or bs 0 0 < 224 → of_two (get_or bs 0 0 - 192) bs ≡ Some (c, n) → Begins bs c n
  begins_two l h e =
      let (whole, two, least, s) = checked_parts 2 128 (joined (Some (get_or bs 0 0 - 192)) (six bs 1)) c n e in
      let (high, x, first, at_1, sum) = joined_parts (Some (get_or bs 0 0 - 192)) (six bs 1) c whole in
      let lead = same_Some (get_or bs 0 0 - 192) high first in
      let (is-1, small-1, there) = six_parts bs 1 x at_1 in
      let e₀ : get_or bs 0 0 ≡ 192 + c / 64 = omega arith in
      let e₁ : get_or bs 1 0 ≡ next c = omega arith in
      let shown = encode_two c least (omega arith) in
      let taken = first_two bs there in
      (s, omega (arith, ap length shown), cc)

  begins_three : 224 ≤ get_or bs 0 0 → get_or bs 0 0 < 240 → of_three (get_or bs 0 0 - 224) bs ≡ Some (c, n) → Begins bs c n
  begins_three l h e =
      let (whole, three, least, s) = checked_parts 3 2048 (joined (joined (Some (get_or bs 0 0 - 224)) (six bs 1)) (six bs 2)) c n e in
      let (higher, y, front, at-2, sum) = joined_parts (joined (Some (get_or bs 0 0 - 224)) (six bs 1)) (six bs 2) c whole in
      let (high, x, first, at_1, part) = joined_parts (Some (get_or bs 0 0 - 224)) (six bs 1) higher front in
      let lead = same_Some (get_or bs 0 0 - 224) high first in
      let (is-1, small-1, _) = six_parts bs 1 x at_1 in
      let (is-2, small-2, there) = six_parts bs 2 y at-2 in
      let e₀ : get_or bs 0 0 ≡ 224 + c / 4096 = omega arith in
      let e₁ : get_or bs 1 0 ≡ next (c / 64) = omega arith in
      let e₂ : get_or bs 2 0 ≡ next c = omega arith in
      let shown = encode_three c least (omega arith) in
      let taken = first_three bs there in
      (s, omega (arith, ap length shown), cc)

  begins_four : 240 ≤ get_or bs 0 0 → get_or bs 0 0 < 248 → of_four (get_or bs 0 0 - 240) bs ≡ Some (c, n) → Begins bs c n
  begins_four l h e =
      let (whole, four, least, s) = checked_parts 4 65536 (joined (joined (joined (Some (get_or bs 0 0 - 240)) (six bs 1)) (six bs 2)) (six bs 3)) c n e in
      let (highest, z, back, at-3, sum) = joined_parts (joined (joined (Some (get_or bs 0 0 - 240)) (six bs 1)) (six bs 2)) (six bs 3) c whole in
      let (higher, y, front, at-2, part) = joined_parts (joined (Some (get_or bs 0 0 - 240)) (six bs 1)) (six bs 2) highest back in
      let (high, x, first, at_1, piece) = joined_parts (Some (get_or bs 0 0 - 240)) (six bs 1) higher front in
      let lead = same_Some (get_or bs 0 0 - 240) high first in
      let (is-1, small-1, _) = six_parts bs 1 x at_1 in
      let (is-2, small-2, _) = six_parts bs 2 y at-2 in
      let (is-3, small-3, there) = six_parts bs 3 z at-3 in
      let e₀ : get_or bs 0 0 ≡ 240 + c / 262144 = omega arith in
      let e₁ : get_or bs 1 0 ≡ next (c / 4096) = omega arith in
      let e₂ : get_or bs 2 0 ≡ next (c / 64) = omega arith in
      let e₃ : get_or bs 3 0 ≡ next c = omega arith in
      let shown = encode_four c least in
      let taken = first_four bs there in
      (s, omega (arith, ap length shown), cc)

begins : (b : ℕ) (bs : List ℕ) (c n : ℕ) → by_lead b (b ∷ bs) ≡ Some (c, n) → Begins (b ∷ bs) c n
begins b bs c n e = from_one (cases_lt b 128)
  where
    from_four : 240 ≤ b → (b < 248) ⊎ (248 ≤ b) → Begins (b ∷ bs) c n
    from_four l (inl h) = begins_four (b ∷ bs) c n l h (sym (lead_four b (b ∷ bs) l h) ∙ e)
    from_four l (inr h) = absurd (none-some (c, n) (sym (lead_none b (b ∷ bs) (omega arith) (inr h)) ∙ e))

    from_three : 224 ≤ b → (b < 240) ⊎ (240 ≤ b) → Begins (b ∷ bs) c n
    from_three l (inl h) = begins_three (b ∷ bs) c n l h (sym (lead_three b (b ∷ bs) l h) ∙ e)
    from_three l (inr h) = from_four h (cases_lt b 248)

    from_two : 192 ≤ b → (b < 224) ⊎ (224 ≤ b) → Begins (b ∷ bs) c n
    from_two l (inl h) = begins_two (b ∷ bs) c n l h (sym (lead_two b (b ∷ bs) l h) ∙ e)
    from_two l (inr h) = from_three h (cases_lt b 240)

    from_none : 128 ≤ b → (b < 192) ⊎ (192 ≤ b) → Begins (b ∷ bs) c n
    from_none l (inl h) = absurd (none-some (c, n) (sym (lead_none b (b ∷ bs) l (inl h)) ∙ e))
    from_none l (inr h) = from_two h (cases_lt b 224)

    from_one : (b < 128) ⊎ (128 ≤ b) → Begins (b ∷ bs) c n
    from_one (inl h) =
        let is = same_Some (b, 1) (c, n) (sym (lead_one b (b ∷ bs) h) ∙ e) in
        let own : b ≡ c = ap (λ p. p.0) is in
        let one : 1 ≡ n = ap (λ p. p.1) is in
        let shown = encode_one c (omega arith) in
        (low_scalar c (omega arith), omega (arith, ap length shown), rw (← one, shown, own))
    from_one (inr h) = from_none h (cases_lt b 192)

pub decoded_sound : (bs : List ℕ) (c n : ℕ) → decoded bs ≡ Some (c, n)
    → (scalar c ≡ true) × (n ≡ length (encode c)) × (take n bs ≡ encode c) × (bs ≡ encode c ++ drop n bs) × (1 ≤ n) × (n ≤ length bs)
unfolding decoded
decoded_sound [] c n e = absurd (none-some (c, n) e)
decoded_sound (b ∷ bs) c n e =
    let (s, width, front) = begins b bs c n e in
    let whole : b ∷ bs ≡ encode c ++ drop n (b ∷ bs) = sym (take-append-drop n (b ∷ bs)) ∙ ap (λ p. p ++ drop n (b ∷ bs)) front in
    let long : n ≤ length (b ∷ bs) = omega (arith, ap length front, length-take n (b ∷ bs)) in
    (s, width, front, whole, omega (arith, encode_some c), long)

pub decoded_none : (bs : List ℕ) (c : ℕ) → decoded bs ≡ None → Stands bs c → ⊥
decoded_none bs c e (s, (rest, is)) = none-some (c, length (encode c)) (sym e ∙ ap decoded is ∙ decoded_encode c rest s)

-- the theorem of specs/Decoding
pub decoding_stands : DecodingStands
decoding_stands bs = found (decoded bs) refl
  where
    found : (r : Option (ℕ × ℕ)) → decoded bs ≡ r → Front bs r
    found None e = λ c there. decoded_none bs c e there
    found (Some p) e = let parts = decoded_sound bs p.0 p.1 e in ((parts.0, (drop p.1 bs, parts.3)), parts.1)

-- ---- other forms

pub decoded_first : (bs : List ℕ) (b : ℕ) → slice_get bs 0 ≡ Some b → decoded bs ≡ by_lead b bs
unfolding decoded
decoded_first [] b e = absurd (none-some b e)
decoded_first (x ∷ bs) b e = let same : x ≡ b = cc in ap (λ y. by_lead y (x ∷ bs)) same

pub decoded_empty : (bs : List ℕ) → length bs ≡ 0 → decoded bs ≡ None
unfolding decoded
decoded_empty [] h = refl
decoded_empty (b ∷ bs) h = absurd (omega arith)

pub decoded_ascii_at : (bs : List ℕ) (i : ℕ) → i < length bs → get_or bs i 0 < 128 → decoded (drop i bs) ≡ Some (get_or bs i 0, 1)
decoded_ascii_at bs i h l = ap decoded (drop-cons bs i 0 h) ∙ decoded_ascii (get_or bs i 0) (drop (suc i) bs) l

-- where one continuation byte is missing, the character is
pub bits_missing : (h : ℕ) (bs : List ℕ) (k n c : ℕ) → bits h bs k ≡ Some c → six bs (suc k) ≡ None → k < n → bits h bs n ≡ None
bits_missing h bs k zero c e s l = absurd (omega arith)
bits_missing h bs k (suc n) c e s l =
    ⊎_elim
    (λ (m : k < n). rw (bits_missing h bs k n c e s m) refl)
    (λ (m : n ≤ k). let same : n ≡ k = omega arith in rw same (rw (e, s) refl))
    (cases_lt k n)
