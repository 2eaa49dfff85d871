-- The one bits that lead a byte, by the byte's range. Assumes nothing.
use Rattle.std.proofs.Common.{◌≡◌, ℕ, zero, suc, ◌-◌, ◌<◌, ◌≤◌, min, Bool, true, cond, ◌&&◌, eqb, ltb, ◌≢◌, ◌⊎◌, refl, inl, inr, ⊎_elim, arith}
use lib.Count.{count_leading_zeros}
use Rattle.std.proofs.lemmas.Bool.{cases_lt}
use Rattle.std.proofs.lemmas.Bool.Decides.{Decides-below_and, Decides-eqb, nat_tests}

-- five stands for five or more
abbrev leads : ℕ → ℕ
leads b = cond (ltb b 128) 0 (cond (ltb b 192) 1 (cond (ltb b 224) 2 (cond (ltb b 240) 3 (cond (ltb b 248) 4 5))))

-- the counted bits and the range agree at each byte below n
abbrev agree : ℕ → Bool
agree zero = true
agree (suc n) = eqb (min 5 (count_leading_zeros 8 (255 - n))) (leads n) && agree n

all_agree : agree 256 ≡ true
unfolding count_leading_zeros
all_agree = refl

counted : (b : ℕ) → b < 256 → min 5 (count_leading_zeros 8 (255 - b)) ≡ leads b
counted b h =
    (Decides-below_and (λ k. eqb (min 5 (count_leading_zeros 8 (255 - k))) (leads k)) (λ k. min 5 (count_leading_zeros 8 (255 - k)) ≡ leads k) agree
    (λ k. Decides-eqb (min 5 (count_leading_zeros 8 (255 - k))) (leads k)) refl (λ _. refl) 256).0 all_agree b h

-- what n says of the byte b that n ones lead
pub record Led (b n : ℕ) : Type 0 where
  pub one : n ≡ 0 → b < 128
  pub two : n ≡ 2 → (192 ≤ b) × (b < 224)
  pub three : n ≡ 3 → (224 ≤ b) × (b < 240)
  pub four : n ≡ 4 → (240 ≤ b) × (b < 248)
  pub none : n ≢ 0 → n ≢ 2 → n ≢ 3 → n ≢ 4 → (128 ≤ b) × ((b < 192) ⊎ (248 ≤ b))

pub led : (b n : ℕ) → b < 256 → n ≡ count_leading_zeros 8 (255 - b) → Led b n
led b n h e =
    let same : min 5 n ≡ leads b = rw e (counted b h) in record {
      one = λ k. grind (arith, nat_tests);
      two = λ k. (grind (arith, nat_tests), grind (arith, nat_tests));
      three = λ k. (grind (arith, nat_tests), grind (arith, nat_tests));
      four = λ k. (grind (arith, nat_tests), grind (arith, nat_tests));
      none = λ k₀ k₂ k₃ k₄. (grind (arith, nat_tests), ⊎_elim (λ l. inl l) (λ l. inr (grind (arith, nat_tests))) (cases_lt b 192));
    }
