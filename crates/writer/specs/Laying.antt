-- Bytes laid into a buffer, one piece behind the other: what the laws of a page need. Assumes nothing.
--     laid_then                a text laid behind another is as both laid at once
--     lays_none, lays_then     no text, and a text behind another, with the places
--     lays_inside              where it was laid, there is a place behind it, and the buffer has kept its length
use Rattle.std.proofs.Common.{◌≡◌, ℕ, ◌+◌, ◌<◌, ◌≤◌, List, [], ◌∷◌, ◌++◌, length, take, drop, set, sym, ap, ◌∙◌, add-zero, add-one, arith}
use Rattle.std.proofs.lemmas.List.{append_assoc, length-append, length-take-le, length-drop, take-append-drop, take_at, drop_at, drop-drop, set_split}
use Rattle.writer.specs.Placing.{laid, Lays}

pub laid_none : (b : List ℕ) (at : ℕ) → laid b at [] ≡ b
laid_none b at = ap (λ k. take at b ++ drop k b) (add-zero at) ∙ take-append-drop at b

pub length_laid : (b : List ℕ) (at : ℕ) (t : List ℕ) → at + length t ≤ length b → length (laid b at t) ≡ length b
length_laid b at t h =
    omega (
      arith,
      length-append (take at b) (t ++ drop (at + length t) b),
      length-append t (drop (at + length t) b),
      length-take-le at b (omega arith),
      length-drop (at + length t) b,
    )

pub laid_then : (b : List ℕ) (at : ℕ) (t u : List ℕ) → at ≤ length b → laid (laid b at t) (at + length t) u ≡ laid b at (t ++ u)
laid_then b at t u h =
    let front = take at b in
    let n = at + length t in
    let rest = drop n b in
    let split : laid b at t ≡ (front ++ t) ++ rest = sym (append_assoc front t rest) in
    let there : length (front ++ t) ≡ n = omega (arith, length-append front t, length-take-le at b h) in
    let begins : take n (laid b at t) ≡ front ++ t = ap (take n) split ∙ take_at (front ++ t) rest n there in
    let ends : drop (n + length u) (laid b at t) ≡ drop (n + length u) b =
    sym (drop-drop (length u) n (laid b at t)) ∙ ap (λ x. drop (length u) (drop n x)) split ∙ ap (drop (length u)) (drop_at (front ++ t) rest n there)
    ∙ drop-drop (length u) n b in
    let far : n + length u ≡ at + length (t ++ u) = omega (arith, length-append t u) in
    ap (λ x. x ++ (u ++ drop (n + length u) (laid b at t))) begins ∙ ap (λ x. (front ++ t) ++ (u ++ x)) ends
    ∙ append_assoc front t (u ++ drop (n + length u) b)
    ∙ ap (λ x. front ++ x) (sym (append_assoc t u (drop (n + length u) b)))
    ∙ ap (λ k. front ++ ((t ++ u) ++ drop k b)) far

pub set_laid : (b : List ℕ) (at v : ℕ) → at < length b → set b at v ≡ laid b at (v ∷ [])
set_laid b at v h = set_split b at v h ∙ ap (λ k. take at b ++ (v ∷ drop k b)) (sym (add-one at))

-- ── with the places ──

pub lays_none : (b : List ℕ) (at : ℕ) → at ≤ length b → Lays b at [] b at
lays_none b at h = record { bytes = sym (laid_none b at); place = sym (add-zero at); inside = omega arith }

pub lays_then : (b : List ℕ) (at : ℕ) (t u c d : List ℕ) (q r : ℕ) → Lays b at t c q → Lays c q u d r → Lays b at (t ++ u) d r
lays_then b at t u c d q r l m =
    record {
      bytes = m.bytes ∙ ap (λ x. laid x q u) l.bytes ∙ ap (λ k. laid (laid b at t) k u) l.place ∙ laid_then b at t u (omega (arith, l.inside));
      place = omega (arith, m.place, l.place, length-append t u);
      inside = omega (arith, m.inside, l.place, length-append t u, ap length l.bytes, length_laid b at t l.inside);
    }

pub lays_inside : (b : List ℕ) (at : ℕ) (t c : List ℕ) (q : ℕ) → Lays b at t c q → (q ≤ length c) × (length c ≡ length b)
lays_inside b at t c q l =
    let same : length c ≡ length b = ap length l.bytes ∙ length_laid b at t l.inside in
    (omega (arith, l.place, l.inside), same)
