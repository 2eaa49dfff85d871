-- What a put of the writer does. Assumes nothing.
--     puts_spelt    given characters
--     puts_bytes    given their bytes
use Rattle.std.proofs.Common.{◌≡◌, ℕ, ◌+◌, ◌≤◌, true, List, length, Some, None, Option, sym, ap, ◌∙◌, arith}
use lib.Utf8.{scalars, encodes}
use Rattle.std.proofs.lemmas.Bool.{le-leb, cond-true}
use Rattle.writer.specs.Sizes.{byte_length}
use Rattle.writer.specs.Placing.{spelt, behind, placed}
use Rattle.writer.proofs.Placed.{spelt_scalars, all_spelt, room_spelt}
use Rattle.writing.specs.Puts.{Puts}

-- what a put answers, where there is room
roomy : (n at : ℕ) (cs : List ℕ) → scalars cs ≡ true → at + byte_length cs ≤ n → behind n at (spelt cs) ≡ Some (at + byte_length cs)
roomy n at cs s h = ap (behind n at) (spelt_scalars cs s) ∙ cond-true _ _ _ (le-leb _ _ h)

pub puts_spelt : (b : List ℕ) (at : ℕ) (cs : List ℕ) (r : Option ℕ) (c : List ℕ) → r ≡ behind (length b) at (spelt cs) → c ≡ placed b at (spelt cs) → Puts b at cs r c
puts_spelt b at cs None c answer buffer = λ s h.
    let never : None ≡ Some (at + byte_length cs) = answer ∙ roomy (length b) at cs s h in
    let z : ◌≡◌ {A = ℕ} 0 1 = cc in
    omega arith
puts_spelt b at cs (Some q) c answer buffer =
    let s = all_spelt (length b) at q cs answer in
    let h = room_spelt (length b) at q cs answer in
    let there : Some q ≡ Some (at + byte_length cs) = answer ∙ roomy (length b) at cs s h in
    (s, record { bytes = buffer ∙ ap (placed b at) (spelt_scalars cs s) ∙ cond-true _ _ _ (le-leb _ _ h); place = cc; inside = h })

pub puts_bytes : (b : List ℕ) (at : ℕ) (cs t : List ℕ) (r : Option ℕ) (c : List ℕ) → t ≡ encodes cs → scalars cs ≡ true
    → r ≡ behind (length b) at (Some t) → c ≡ placed b at (Some t) → Puts b at cs r c
puts_bytes b at cs t r c e s answer buffer =
    let same : Some t ≡ spelt cs = ap Some e ∙ sym (spelt_scalars cs s) in
    puts_spelt b at cs r c (answer ∙ ap (behind (length b) at) same) (buffer ∙ ap (placed b at) same)
