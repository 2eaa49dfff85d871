-- What the layer answers, one mark at a time. Assumes nothing.
use Rattle.std.proofs.Common.{◌≡◌, ℕ, min, Bool, true, false, cond, List, [], ◌∷◌, Some, Ok, Err, Option, Result, sym, refl, ap, subst, arith}
use Rattle.marks.specs.declared.mark.Mark.{Mark}
use Rattle.marks.specs.declared.fault.Fault.{Fault}
use Rattle.marks.specs.Gives.{Close, Gives}
use Rattle.blanks.specs.declared.state.State.{State}
use Rattle.blanks.specs.declared.held.Held.{Held}
use Rattle.blanks.specs.Given.{Given, these, long_run}
use Rattle.blanks.specs.Ahead.{standing, ahead, close_after, counted}

closes_as : (b : Bool) (i j : ℕ) (c c' : Close) → min i 4294967295 ≡ min j 4294967295 → c' ≡ c → cond b (Err (long_run i)) c' ≡ cond b (Err (long_run j)) c
closes_as true i j c c' e h = let z : long_run i ≡ long_run j = cc in ap Err z
closes_as false i j c c' e h = h

-- a mark is given, and counted
pub one : (m : Mark) (g g' : Given) (n n' : ℕ) (c c' : Close) → g ≡ these (m ∷ []) g' → n' ≡ counted n → c' ≡ c → Gives g.marks (close_after n g c) (Ok (Some m)) g'.marks (close_after n' g' c')
one m g g' n n' c c' e h k =
    subst (λ (t : Given). Gives t.marks (close_after n t c) (Ok (Some m)) g'.marks (close_after n' g' c')) (sym e)
    (record { answers = refl; leaves = refl; keeps = closes_as g'.long _ _ c c' (omega arith) k })

-- the same answer, where the layer gives the same from another standing
pub same : (g g₁ : Given) (n n₁ : ℕ) (c c₁ : Close) (r : Result (Option Mark) Fault) (ws' : List Mark) (c' : Close) → g ≡ g₁ → n₁ ≡ n → c₁ ≡ c → Gives g₁.marks (close_after n₁ g₁ c₁) r ws' c' → Gives g.marks (close_after n g c) r ws' c'
same g g₁ n n₁ c c₁ r ws' c' e h k told =
    subst (λ (t : Given). Gives t.marks (close_after n t c) r ws' c') (sym e)
    (subst (λ (x : ℕ). Gives g₁.marks (close_after x g₁ c) r ws' c') h (subst (λ (x : Close). Gives g₁.marks (close_after n₁ g₁ x) r ws' c') k told))

-- what is ahead, where the state is known
pub stands : (h : Held) (ws : List Mark) (s : State) → h.state ≡ s → ahead h ws ≡ standing s h.run ws
stands h ws s e = ap (λ x. standing x h.run ws) e
