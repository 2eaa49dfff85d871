-- The ranges of White_Space against its code points. Assumes nothing.
use Rattle.std.proofs.Common.{◌≡◌, ℕ, zero, suc, ◌+◌, ◌-◌, true, ◌&&◌, ◌||◌, eqb, ltb, leb, List, [], ◌∷◌, ◌++◌, sym, refl, ap, ◌∙◌, ⊎_elim, arith}
use lib.Utf8.{scalar, scalars}
use Rattle.std.proofs.lemmas.Bool.{and_parts, or_cases, eqb-true}
use Rattle.std.proofs.lemmas.Bool.Decides.{nat_tests}
use Rattle.characters.specs.WhiteSpace.{points, among, white, ranges, held, RangesHold}

-- n neighbours, the first of them p
abbrev row : ℕ → ℕ → List ℕ
row p zero = []
row p (suc n) = p ∷ row (suc p) n

among_row : (c p n : ℕ) → among c (row p n) ≡ (leb p c && ltb c (p + n))
among_row c p zero = grind (arith, nat_tests)
among_row c p (suc n) = let e = among_row c (suc p) n in rw e (grind (arith, nat_tests))

pub among_append : (c : ℕ) (ps qs : List ℕ) → among c (ps ++ qs) ≡ (among c ps || among c qs)
among_append c [] qs = refl
among_append c (p ∷ ps) qs = let e = among_append c ps qs in rw e (grind (arith, nat_tests))

-- each range written out
abbrev spread : List (ℕ × ℕ) → List ℕ
spread [] = []
spread (r ∷ rs) = row r.0 (suc r.1 - r.0) ++ spread rs

held_spread : (c : ℕ) (rs : List (ℕ × ℕ)) → held c rs ≡ among c (spread rs)
held_spread c [] = refl
held_spread c (r ∷ rs) =
    let row_is = among_row c r.0 (suc r.1 - r.0) in
    let e : (leb r.0 c && leb c r.1) ≡ among c (row r.0 (suc r.1 - r.0)) = rw row_is (grind (arith, nat_tests)) in
    rw (e, held_spread c rs) (sym (among_append c (row r.0 (suc r.1 - r.0)) (spread rs)))

written_out : spread ranges ≡ points
written_out = refl

pub ranges_hold : RangesHold
unfolding white
ranges_hold c = held_spread c ranges ∙ ap (among c) written_out

-- each code point of a row of scalar values is one
among_scalar : (c : ℕ) (ps : List ℕ) → scalars ps ≡ true → among c ps ≡ true → scalar c ≡ true
among_scalar c [] s a = cc
among_scalar c (p ∷ ps) s a =
    let each = and_parts (scalar p) (scalars ps) s in
    ⊎_elim (λ e. rw (eqb-true c p e) each.0) (λ e. among_scalar c ps each.1 e) (or_cases (eqb c p) (among c ps) a)

pub white_scalar : (c : ℕ) → white c ≡ true → scalar c ≡ true
unfolding white
white_scalar c e = among_scalar c points refl e
