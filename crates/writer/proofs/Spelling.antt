-- The bytes of the pieces: how they and their number are put together, and which pieces have bytes. Assumes nothing.
use Rattle.std.proofs.Common.{◌≡◌, ℕ, ◌+◌, ◌<◌, ◌≤◌, Bool, true, false, ◌&&◌, eqb, List, [], ◌∷◌, ◌++◌, length, get_or, drop, sym, refl, ap, ◌∙◌, ⊎_elim, arith}
use lib.Utf8.{scalar, scalars, encode, encodes}
use Rattle.std.proofs.lemmas.List.{append-nil, append_assoc, length-append, at_drop_more, at_drop_all}
use Rattle.std.proofs.lemmas.Bool.{and_parts, or_cases, eqb-true, cond-true, cond-false, cond_both}
use Rattle.std.proofs.lemmas.Str.{encodes-append, encode_ascii}
use Rattle.characters.specs.WhiteSpace.{among}
use Rattle.addresses.specs.Signs.{quote, close_bracket, backslash}
use Rattle.addresses.specs.Written.{escape, escaped, quoted, bracketed}
use Rattle.writer.specs.Sizes.{byte_length}
use Rattle.writer.specs.Pieces.{addressed}
use Rattle.writer.specs.Texts.{byte_append, scalars_append}

pub byte_cons : (c : ℕ) (xs : List ℕ) → byte_length (c ∷ xs) ≡ length (encode c) + byte_length xs
byte_cons c xs = length-append (encode c) (encodes xs)

-- ── escapes ──

pub escape_plain : (c : ℕ) → among c (backslash ∷ quote ∷ []) ≡ false → encodes (escape c) ≡ encode c
escape_plain c e = ap encodes (cond-false _ (backslash ∷ c ∷ []) (c ∷ []) e) ∙ append-nil (encode c)

-- the character is one of the two
small : (c : ℕ) → among c (backslash ∷ quote ∷ []) ≡ true → c < 128
small c e =
    ⊎_elim (λ h. omega (arith, eqb-true c backslash h)) (λ h. ⊎_elim (λ g. omega (arith, eqb-true c quote g)) (λ g. absurd (no g)) (or_cases (eqb c quote) false h))
    (or_cases (eqb c backslash) _ e)
  where
    no : false ≡ true → ⊥
    no g = let z : ◌≡◌ {A = ℕ} 0 1 = cc in omega arith

pub escape_marked : (c : ℕ) → among c (backslash ∷ quote ∷ []) ≡ true → encodes (escape c) ≡ backslash ∷ encode c
unfolding encode
escape_marked c e = ap encodes (cond-true _ (backslash ∷ c ∷ []) (c ∷ []) e) ∙ ap (λ x. backslash ∷ x) (append-nil (encode c))

pub escape_two : (c : ℕ) → among c (backslash ∷ quote ∷ []) ≡ true → byte_length (escape c) ≡ 2
escape_two c e = ap length (escape_marked c e ∙ ap (λ x. backslash ∷ x) (encode_ascii c (small c e)))

-- ── signs around a row ──

-- a quoted name and the sign s behind it
pub encodes_quoted : (n : List ℕ) (s : ℕ) → s < 128 → encodes (quoted n ++ s ∷ []) ≡ quote ∷ encodes (escaped n) ++ quote ∷ s ∷ []
unfolding encode
encodes_quoted n s h =
    ap (λ x. quote ∷ encodes x) (append_assoc (escaped n) (quote ∷ []) (s ∷ [])) ∙ ap (λ x. quote ∷ x) (encodes-append (escaped n) (quote ∷ s ∷ []))
    ∙ ap (λ x. quote ∷ encodes (escaped n) ++ quote ∷ x) (append-nil (encode s) ∙ encode_ascii s h)

pub byte_quoted : (n : List ℕ) (s : ℕ) → s < 128 → byte_length (quoted n ++ s ∷ []) ≡ byte_length (escaped n) + 3
byte_quoted n s h = omega (arith, ap length (encodes_quoted n s h), length-append (encodes (escaped n)) (quote ∷ s ∷ []))

pub encodes_bracketed : (a : List ℕ) → encodes (bracketed a) ≡ 60 ∷ encodes a ++ 62 ∷ []
unfolding encode
encodes_bracketed a = ap (λ x. 60 ∷ x) (encodes-append a (close_bracket ∷ []))

pub byte_bracketed : (a : List ℕ) → byte_length (bracketed a) ≡ byte_length a + 2
byte_bracketed a = omega (arith, ap length (encodes_bracketed a), length-append (encodes a) (62 ∷ []))

-- ── scalar values ──

and_true : (b : Bool) → (b && true) ≡ b
and_true true = refl
and_true false = refl

scalars_escape : (c : ℕ) → scalars (escape c) ≡ scalar c
scalars_escape c = cond_both (among c (backslash ∷ quote ∷ [])) _ _ (λ x. scalars x ≡ scalar c) (λ _. and_true (scalar c)) (λ _. and_true (scalar c))

pub scalars_escaped : (n : List ℕ) → scalars (escaped n) ≡ scalars n
scalars_escaped [] = refl
scalars_escaped (c ∷ n) = scalars_append (escape c) (escaped n) ∙ ap (λ b. b && scalars (escaped n)) (scalars_escape c) ∙ ap (λ b. scalar c && b) (scalars_escaped n)

pub scalars_quoted : (n : List ℕ) (s : ℕ) → scalar s ≡ true → scalars (quoted n ++ s ∷ []) ≡ scalars n
scalars_quoted n s h =
    scalars_append (quoted n) (s ∷ []) ∙ ap (λ b. scalars (quoted n) && (b && true)) h ∙ and_true (scalars (quoted n)) ∙ scalars_append (escaped n) (quote ∷ [])
    ∙ and_true (scalars (escaped n)) ∙ scalars_escaped n

pub scalars_bracketed : (a : List ℕ) → scalars (bracketed a) ≡ scalars a
scalars_bracketed a = scalars_append a (close_bracket ∷ []) ∙ and_true (scalars a)

pub scalars_addressed : (b : Bool) (a : List ℕ) → scalars (addressed b a) ≡ scalars a
scalars_addressed true a = scalars_bracketed a
scalars_addressed false a = refl

-- ── one character of a row after the other ──

pub row_more : (row : List ℕ) (i : ℕ) → i < length row → byte_length (drop i row) ≡ length (encode (get_or row i 0)) + byte_length (drop (i + 1) row)
row_more row i h = at_drop_more byte_length row i 0 h ∙ byte_cons (get_or row i 0) (drop (i + 1) row)

pub row_done : (row : List ℕ) (i : ℕ) → length row ≤ i → byte_length (drop i row) ≡ 0
row_done row i h = at_drop_all byte_length row i h

pub escaped_more : (n : List ℕ) (i : ℕ) → i < length n → byte_length (escaped (drop i n)) ≡ byte_length (escape (get_or n i 0)) + byte_length (escaped (drop (i + 1) n))
escaped_more n i h = at_drop_more (λ x. byte_length (escaped x)) n i 0 h ∙ byte_append (escape (get_or n i 0)) (escaped (drop (i + 1) n))

pub escaped_done : (n : List ℕ) (i : ℕ) → length n ≤ i → byte_length (escaped (drop i n)) ≡ 0
escaped_done n i h = at_drop_all (λ x. byte_length (escaped x)) n i h

pub encodes_escaped_more : (n : List ℕ) (i : ℕ) → i < length n → encodes (escaped (drop i n)) ≡ encodes (escape (get_or n i 0)) ++ encodes (escaped (drop (i + 1) n))
encodes_escaped_more n i h = at_drop_more (λ x. encodes (escaped x)) n i 0 h ∙ encodes-append (escape (get_or n i 0)) (escaped (drop (i + 1) n))

-- the next character of a row of scalar values, and what is left of it
pub scalars_more : (row : List ℕ) (i : ℕ) → i < length row → scalars (drop i row) ≡ true → (scalar (get_or row i 0) ≡ true) × (scalars (drop (i + 1) row) ≡ true)
scalars_more row i h s = and_parts (scalar (get_or row i 0)) (scalars (drop (i + 1) row)) (sym (at_drop_more scalars row i 0 h) ∙ s)
