-- What is put at a place, and where there is no room for it. Assumes nothing.
use Rattle.std.proofs.Common.{◌≡◌, ℕ, ◌+◌, ◌≤◌, Bool, true, false, cond, leb, List, length, Some, None, Option, sym, refl, ap, ◌∙◌, arith}
use lib.Utf8.{scalars, encodes}
use Rattle.std.proofs.lemmas.Bool.{leb-true, le-leb, cond-true, cond-false}
use Rattle.writer.specs.Sizes.{byte_length}
use Rattle.writer.specs.Placing.{spelt, laid, behind, placed, Lays}

pub spelt_scalars : (cs : List ℕ) → scalars cs ≡ true → spelt cs ≡ Some (encodes cs)
spelt_scalars cs s = cond-true _ _ _ s

pub behind_unspelt : (n at : ℕ) (cs : List ℕ) → scalars cs ≡ false → behind n at (spelt cs) ≡ None
behind_unspelt n at cs s = ap (behind n at) (cond-false _ _ _ s)

-- the place e behind them, if there is room up to it
pub behind_spelt : (n at e : ℕ) (cs : List ℕ) → scalars cs ≡ true → e ≡ at + byte_length cs → cond (leb e n) (Some e) None ≡ behind n at (spelt cs)
behind_spelt n at e cs s h = ap (λ k. cond (leb k n) (Some k) None) h ∙ sym (ap (behind n at) (spelt_scalars cs s))

placed_none : (b : List ℕ) (at : ℕ) (t : Option (List ℕ)) → behind (length b) at t ≡ None → placed b at t ≡ b
placed_none b at None e = refl
placed_none b at (Some t) e = short (leb (at + length t) (length b)) e
  where
    short : (r : Bool) → cond r (Some (at + length t)) None ≡ None → cond r (laid b at t) b ≡ b
    short true e = let z : ◌≡◌ {A = ℕ} 0 1 = cc in absurd (omega arith)
    short false e = refl

-- where an answer tells the place behind them, the characters have bytes
pub all_spelt : (n at e : ℕ) (cs : List ℕ) → Some e ≡ behind n at (spelt cs) → scalars cs ≡ true
all_spelt n at e cs h = yes (scalars cs) h
  where
    yes : (r : Bool) → Some e ≡ behind n at (cond r (Some (encodes cs)) None) → r ≡ true
    yes true h = refl
    yes false h = cc

-- and there is room for them
pub room_spelt : (n at e : ℕ) (cs : List ℕ) → Some e ≡ behind n at (spelt cs) → at + byte_length cs ≤ n
room_spelt n at e cs h = leb-true _ _ (yes (leb (at + byte_length cs) n) (h ∙ ap (behind n at) (spelt_scalars cs (all_spelt n at e cs h))))
  where
    yes : (r : Bool) → Some e ≡ cond r (Some (at + byte_length cs)) None → r ≡ true
    yes true h = refl
    yes false h = cc

-- ── a put, as its function answers it and leaves the buffer ──

placed_laid : (b : List ℕ) (at : ℕ) (t c : List ℕ) (q : ℕ) → Lays b at t c q → c ≡ placed b at (Some t)
placed_laid b at t c q l = l.bytes ∙ sym (cond-true _ _ _ (le-leb _ _ l.inside))

placed_spelt : (b : List ℕ) (at : ℕ) (cs c : List ℕ) (q : ℕ) → scalars cs ≡ true → Lays b at (encodes cs) c q → c ≡ placed b at (spelt cs)
placed_spelt b at cs c q s l = placed_laid b at (encodes cs) c q l ∙ ap (placed b at) (sym (spelt_scalars cs s))

-- the characters cs are those of the text
pub put_none : (b : List ℕ) (at : ℕ) (cs text : List ℕ) (r : Option ℕ) → cs ≡ text → r ≡ None → None ≡ behind (length b) at (spelt cs)
    → (r ≡ behind (length b) at (spelt text)) × (b ≡ placed b at (spelt text))
put_none b at cs text r e none told =
    let short : None ≡ behind (length b) at (spelt text) = told ∙ ap (λ t. behind (length b) at (spelt t)) e in
    (none ∙ short, sym (placed_none b at (spelt text) (sym short)))

pub put_some : (b : List ℕ) (at : ℕ) (cs text c : List ℕ) (q e : ℕ) → cs ≡ text → Some e ≡ behind (length b) at (spelt cs) → Lays b at (encodes cs) c q
    → (Some e ≡ behind (length b) at (spelt text)) × (c ≡ placed b at (spelt text))
put_some b at cs text c q e same told lays =
    (told ∙ ap (λ t. behind (length b) at (spelt t)) same, placed_spelt b at cs c q (all_spelt (length b) at e cs told) lays ∙ ap (λ t. placed b at (spelt t)) same)
