-- Bytes laid into a buffer, told otherwise: as a copy into a part of it does, and as other bytes that are the same. Assumes nothing.
use Rattle.std.proofs.Common.{◌≡◌, ℕ, List, ◌++◌, length, take, drop, ap, ◌∙◌, subst}
use borrow.Rule.Slice.PartMut.{put_mid}
use Rattle.std.proofs.lemmas.List.{drop-drop}
use Rattle.writer.specs.Placing.{laid, Lays}

pub put_mid_laid : (b : List ℕ) (at n : ℕ) (t : List ℕ) → n ≡ length t → put_mid at n b t ≡ laid b at t
put_mid_laid b at n t e = ap (λ k. take at b ++ (t ++ drop k (drop at b))) e ∙ ap (λ x. take at b ++ (t ++ x)) (drop-drop (length t) at b)

pub lays_as : (b : List ℕ) (at : ℕ) (t u c : List ℕ) (q : ℕ) → t ≡ u → Lays b at t c q → Lays b at u c q
lays_as b at t u c q e l = subst (λ x. Lays b at x c q) e l
