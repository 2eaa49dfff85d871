-- The characters of bytes: the laws of `characters_from`, and that what it finds is there.
--     characters_front, characters_none, characters_past    a character in front, or none, or several
--     Walked bs cs p       a walk over bs stands at the byte p, and has met the characters cs
--     walk_start, walk_on, walk_inside, walk_end, walk_ill    how it goes on, and what it then has found
--     characters_found     the theorem of specs/WellFormed
-- Assumes nothing.
use Rattle.std.proofs.Common.{◌≡◌, ℕ, zero, suc, ◌+◌, ◌-◌, ◌<◌, ◌≤◌, true, List, [], ◌∷◌, ◌++◌, length, get_or, take, drop, Some, None, Ok, Err, IsUtf8, Option, Result, sym, refl, ap, ◌∙◌, subst, add-zero, arith, take-add}
use lib.Utf8.{scalar, scalars, encode, encodes}
use Rattle.std.proofs.lemmas.List.{append-nil, append_assoc, length-append, length-drop, length-take-le, take-append-drop, take_all, take_at, drop_more, drop_all, drop-drop, drop_at}
use Rattle.std.proofs.lemmas.Bool.{and_parts, and_from}
use Rattle.std.proofs.lemmas.Str.{IsUtf8-append, IsUtf8-encode, IsUtf8-nil}
use Rattle.characters.specs.Decoding.{Stands, decoded}
use Rattle.characters.proofs.Standing.{decoded_encode, decoded_sound, decoded_none}
use Rattle.addresses.specs.WellFormed.{Utf8Of, IllAt, prefixed, letter, characters_from, characters_of, CharactersFound}

-- ── one character after the other ──

-- the bytes of the character before are passed over
characters_skip : (p k : ℕ) (bs : List ℕ) → characters_from p k bs ≡ characters_from (p + k) 0 (drop k bs)
unfolding characters_from
characters_skip p zero bs = ap (λ q. characters_from q 0 bs) (sym (add-zero p))
characters_skip p (suc k) [] = refl
characters_skip p (suc k) (b ∷ bs) = characters_skip (p + 1) k bs ∙ ap (λ q. characters_from q 0 (drop k bs)) (omega arith)

pub characters_end : (p : ℕ) → characters_from p 0 [] ≡ Ok []
unfolding characters_from
characters_end p = refl

pub characters_front : (p : ℕ) (bs : List ℕ) (c n : ℕ) → decoded bs ≡ Some (c, n) → characters_from p 0 bs ≡ prefixed (c ∷ []) (characters_from (p + n) 0 (drop n bs))
unfolding characters_from
characters_front p [] c n e = let d = decoded_sound [] c n e in absurd (omega (arith, d.4, d.5))
characters_front p (b ∷ bs) c n e =
    let some : 1 ≤ n = (decoded_sound (b ∷ bs) c n e).4 in
    ap (λ o. letter p o (λ k. characters_from (p + 1) (k - 1) bs)) e
    ∙ ap (prefixed (c ∷ [])) (characters_skip (p + 1) (n - 1) bs ∙ behind n some)
  where
    behind : (n : ℕ) → 1 ≤ n → characters_from (p + 1 + (n - 1)) 0 (drop (n - 1) bs) ≡ characters_from (p + n) 0 (drop n (b ∷ bs))
    behind zero h = absurd (omega arith)
    behind (suc n) h = let q : p + 1 + (suc n - 1) ≡ p + suc n = omega arith in let k : suc n - 1 ≡ n = omega arith in rw (q, k)

pub characters_none : (p b : ℕ) (bs : List ℕ) → decoded (b ∷ bs) ≡ None → characters_from p 0 (b ∷ bs) ≡ Err p
unfolding characters_from
characters_none p b bs e = ap (λ o. letter p o (λ k. characters_from (p + 1) (k - 1) bs)) e

prefixed_none : (r : Result (List ℕ) ℕ) → prefixed [] r ≡ r
prefixed_none (Ok cs) = refl
prefixed_none (Err p) = refl

prefixed_twice : (cs ds : List ℕ) (r : Result (List ℕ) ℕ) → prefixed cs (prefixed ds r) ≡ prefixed (cs ++ ds) r
prefixed_twice cs ds (Ok es) = ap Ok (sym (append_assoc cs ds es))
prefixed_twice cs ds (Err p) = refl

pub characters_past : (p : ℕ) (cs rest : List ℕ) → scalars cs ≡ true → characters_from p 0 (encodes cs ++ rest) ≡ prefixed cs (characters_from (p + length (encodes cs)) 0 rest)
characters_past p [] rest s = ap (λ q. characters_from q 0 rest) (sym (add-zero p)) ∙ sym (prefixed_none _)
characters_past p (c ∷ cs) rest s =
    let both = and_parts (scalar c) (scalars cs) s in
    let n = length (encode c) in
    ap (characters_from p 0) (append_assoc (encode c) (encodes cs) rest)
    ∙ characters_front p (encode c ++ (encodes cs ++ rest)) c n (decoded_encode c (encodes cs ++ rest) both.0)
    ∙ ap (λ bs. prefixed (c ∷ []) (characters_from (p + n) 0 bs)) (drop_at (encode c) (encodes cs ++ rest) n refl)
    ∙ ap (prefixed (c ∷ [])) (characters_past (p + n) cs rest both.1)
    ∙ prefixed_twice (c ∷ []) cs _
    ∙ ap (λ q. prefixed (c ∷ cs) (characters_from q 0 rest)) (omega (arith, length-append (encode c) (encodes cs)))

-- ── a walk ──

abbrev pub Walked : List ℕ → List ℕ → ℕ → Type 0
Walked bs cs p = characters_of bs ≡ prefixed cs (characters_from p 0 (drop p bs))

pub walk_start : (bs : List ℕ) → Walked bs [] 0
walk_start bs = sym (prefixed_none _)

pub walk_on : (bs cs : List ℕ) (p c n : ℕ) → decoded (drop p bs) ≡ Some (c, n) → Walked bs cs p → Walked bs (cs ++ c ∷ []) (p + n)
walk_on bs cs p c n e w =
    w
    ∙ ap (prefixed cs) (characters_front p (drop p bs) c n e)
    ∙ prefixed_twice cs (c ∷ []) _
    ∙ ap (λ xs. prefixed (cs ++ c ∷ []) (characters_from (p + n) 0 xs)) (drop-drop n p bs)

-- a character has a byte at least, and all of its bytes are there
pub walk_inside : (bs : List ℕ) (p c n : ℕ) → decoded (drop p bs) ≡ Some (c, n) → (1 ≤ n) × (p + n ≤ length bs)
walk_inside bs p c n e = let d = decoded_sound (drop p bs) c n e in omega (arith, length-drop p bs, d.4, d.5)

pub walk_end : (bs cs : List ℕ) (p : ℕ) → length bs ≤ p → Walked bs cs p → characters_of bs ≡ Ok cs
walk_end bs cs p h w =
    w ∙ ap (λ xs. prefixed cs (characters_from p 0 xs)) (drop_all p bs h) ∙ ap (prefixed cs) (characters_end p) ∙ ap Ok (append-nil cs)

pub walk_ill : (bs cs : List ℕ) (p : ℕ) → p < length bs → decoded (drop p bs) ≡ None → Walked bs cs p → characters_of bs ≡ Err p
walk_ill bs cs p h e w =
    let d = drop_more bs p 0 h in
    w
    ∙ ap (λ xs. prefixed cs (characters_from p 0 xs)) d
    ∙ ap (prefixed cs) (characters_none p (get_or bs p 0) (drop (p + 1) bs) (ap decoded (sym d) ∙ e))

-- over all that is well-formed
walk_past : (bs cs : List ℕ) (p : ℕ) → p ≤ length bs → Utf8Of (take p bs) cs → Walked bs cs p
walk_past bs cs p h (s, e) =
    let there : 0 + length (encodes cs) ≡ p = omega (arith, ap length e, length-take-le p bs h) in
    ap characters_of (sym (take-append-drop p bs) ∙ ap (λ xs. xs ++ drop p bs) (sym e))
    ∙ characters_past 0 cs (drop p bs) s
    ∙ ap (λ q. prefixed cs (characters_from q 0 (drop p bs))) there

-- ── what is found is there ──

-- r is what the bytes bs give of which the first is the p-th
abbrev Finds : ℕ → List ℕ → Result (List ℕ) ℕ → Type 0
Finds p bs (Ok cs) = Utf8Of bs cs
Finds p bs (Err q) = (k : ℕ) × (q ≡ p + k) × IllAt bs k

one_more : (p n c : ℕ) (bs : List ℕ) (r : Result (List ℕ) ℕ) → decoded bs ≡ Some (c, n) → Finds (p + n) (drop n bs) r → Finds p bs (prefixed (c ∷ []) r)
one_more p n c bs (Ok cs) e (s, w) =
    let d = decoded_sound bs c n e in
    (and_from (scalar c) (scalars cs) d.0 s, ap (λ xs. encode c ++ xs) w ∙ sym d.3)
one_more p n c bs (Err q) e (k, place, ill) =
    let d = decoded_sound bs c n e in
    let first : take n bs ≡ encode c = ap (take n) d.3 ∙ take_at (encode c) (drop n bs) n (sym d.1) in
    let all : take (n + k) bs ≡ encode c ++ take k (drop n bs) = take-add n k bs ∙ ap (λ xs. xs ++ take k (drop n bs)) first in (
      n + k,
      omega arith,
      record {
        before = subst IsUtf8 (sym all) (IsUtf8-append (encode c) (take k (drop n bs)) (IsUtf8-encode c d.0) ill.before);
        inside = omega (arith, ill.inside, length-drop n bs);
        none = λ x h. ill.none x (subst (λ xs. Stands xs x) (sym (drop-drop k n bs)) h);
      },
    )

no_more : (p b : ℕ) (bs : List ℕ) → decoded (b ∷ bs) ≡ None → Finds p (b ∷ bs) (Err p)
no_more p b bs e = (0, omega arith, record { before = IsUtf8-nil; inside = omega arith; none = λ x h. decoded_none (b ∷ bs) x e h })

by_first : (n p b : ℕ) (bs : List ℕ) (o : Option (ℕ × ℕ)) → length (b ∷ bs) ≤ suc n → decoded (b ∷ bs) ≡ o
    → ((q : ℕ) (xs : List ℕ) → length xs ≤ n → Finds q xs (characters_from q 0 xs)) → Finds p (b ∷ bs) (characters_from p 0 (b ∷ bs))
by_first n p b bs None h e on = subst (Finds p (b ∷ bs)) (sym (characters_none p b bs e)) (no_more p b bs e)
by_first n p b bs (Some d) h e on =
    let t = decoded_sound (b ∷ bs) d.0 d.1 e in
    subst (Finds p (b ∷ bs)) (sym (characters_front p (b ∷ bs) d.0 d.1 e))
    (one_more p d.1 d.0 (b ∷ bs) _ e (on (p + d.1) (drop d.1 (b ∷ bs)) (omega (arith, length-drop d.1 (b ∷ bs), t.4))))

-- n is at least the number of the bytes
finds : (n p : ℕ) (bs : List ℕ) → length bs ≤ n → Finds p bs (characters_from p 0 bs)
finds n p [] h = subst (Finds p []) (sym (characters_end p)) (refl, refl)
finds zero p (b ∷ bs) h = absurd (omega arith)
finds (suc n) p (b ∷ bs) h = by_first n p b bs (decoded (b ∷ bs)) h refl (finds n)

nowhere : (bs : List ℕ) → ((c : ℕ) → Stands bs c → ⊥) → decoded bs ≡ None
nowhere bs no_one = by (decoded bs) refl
  where
    by : (o : Option (ℕ × ℕ)) → decoded bs ≡ o → o ≡ None
    by None e = refl
    by (Some d) e = let t = decoded_sound bs d.0 d.1 e in absurd (no_one d.0 (t.0, (drop d.1 bs, t.3)))

pub characters_found : CharactersFound
characters_found bs =
    let there = finds (length bs) 0 bs (omega arith) in
    record {
      well_formed = λ cs. (λ e. subst (Finds 0 bs) e there, whole cs);
      ill_formed = λ p. (λ e. let (k, place, ill) = subst (Finds 0 bs) e there in subst (IllAt bs) (omega arith) ill, broken p);
    }
  where
    whole : (cs : List ℕ) → Utf8Of bs cs → characters_of bs ≡ Ok cs
    whole cs u = walk_end bs cs (length bs) (omega arith) (walk_past bs cs (length bs) (omega arith) (subst (λ xs. Utf8Of xs cs) (sym (take_all (length bs) bs (omega arith))) u))

    broken : (p : ℕ) → IllAt bs p → characters_of bs ≡ Err p
    broken p i = let (cs, u) = i.before in walk_ill bs cs p i.inside (nowhere (drop p bs) i.none) (walk_past bs cs p (omega (arith, i.inside)) u)
