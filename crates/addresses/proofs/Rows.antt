-- Rows of characters: what they hold, and that they are Unicode scalar values. Assumes nothing.
use Rattle.std.proofs.Common.{◌≡◌, ℕ, ◌≤◌, true, false, ◌||◌, eqb, List, [], ◌∷◌, ◌++◌, length, sym, refl, ap, ◌∙◌, subst, arith}
use mathlib.Core.Bool.{false≢true}
use lib.Utf8.{scalar, scalars}
use Rattle.std.proofs.Math.Bool.{or-false}
use Rattle.std.proofs.lemmas.List.{length-append}
use Rattle.std.proofs.lemmas.Bool.{le-leb, and_parts, and_from, or_from, ne_eqb}
use Rattle.std.specs.List.{AllByRecursion as Every}
use Rattle.characters.specs.WhiteSpace.{among, white}
use Rattle.characters.proofs.Containing.{eqb_comm}
use Rattle.characters.proofs.Ranges.{among_append}
use Rattle.addresses.specs.Limits.{short}

-- ── what a row holds ──

pub among_push : (k c : ℕ) (a : List ℕ) → among k (a ++ c ∷ []) ≡ (among k a || eqb k c)
among_push k c a = among_append k a (c ∷ []) ∙ ap (λ b. among k a || b) (or-false (eqb k c))

pub unlike : (c k : ℕ) → eqb c k ≡ false → eqb k c ≡ false
unlike c k e = eqb_comm k c ∙ e

pub among_push_false : (k c : ℕ) (a : List ℕ) → among k a ≡ false → eqb c k ≡ false → among k (a ++ c ∷ []) ≡ false
among_push_false k c a h e = among_push k c a ∙ or_from _ _ h (unlike c k e)

-- a White_Space character is none of the signs
pub white_not : (c k : ℕ) → white c ≡ true → white k ≡ false → eqb c k ≡ false
white_not c k w e = ne_eqb c k (λ p. false≢true (sym e ∙ subst (λ x. white x ≡ true) p w))

-- ── scalar values ──

pub scalars_append : (xs ys : List ℕ) → scalars xs ≡ true → scalars ys ≡ true → scalars (xs ++ ys) ≡ true
scalars_append [] ys p q = q
scalars_append (x ∷ xs) ys p q = let r = and_parts (scalar x) (scalars xs) p in and_from (scalar x) _ r.0 (scalars_append xs ys r.1 q)

pub scalars_push : (xs : List ℕ) (c : ℕ) → scalars xs ≡ true → scalar c ≡ true → scalars (xs ++ c ∷ []) ≡ true
scalars_push xs c p q = scalars_append xs (c ∷ []) p (and_from (scalar c) true q refl)

-- ── lengths ──

pub short_front : (xs ys : List ℕ) → length (xs ++ ys) ≤ 2000 → short xs ≡ true
short_front xs ys h = le-leb (length xs) 2000 (omega (arith, length-append xs ys))

-- ── what holds of each ──

pub all_split : {X : Type 0} (P : X → Type 0) (xs ys : List X) → Every P (xs ++ ys) → Every P xs × Every P ys
all_split P [] ys p = (tt, p)
all_split P (x ∷ xs) ys p = let q = all_split P xs ys p.1 in ((p.0, q.0), q.1)
