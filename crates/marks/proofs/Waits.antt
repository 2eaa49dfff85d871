-- What the answer of a source says of what waits in it. Assumes nothing.
use Rattle.std.proofs.Common.{◌≡◌, ℕ, List, [], ◌∷◌, Some, None, Ok, Err, Option, Result, sym, refl, ap, ◌∙◌, arith}
use Rattle.marks.specs.declared.mark.Mark.{Mark}
use Rattle.marks.specs.declared.fault.Fault.{Fault}
use Rattle.marks.specs.Gives.{Close, closing, answer, after, Gives}

no_close : (c : Close) (m : Mark) → Ok (Some m) ≡ closing c → ⊥
no_close (Ok tt) m e = let z : ◌≡◌ {A = ℕ} 0 1 = cc in omega arith
no_close (Err f) m e = let z : ◌≡◌ {A = ℕ} 0 1 = cc in omega arith

waited_first : (ws : List Mark) (c : Close) (m : Mark) → Ok (Some m) ≡ answer ws c → ws ≡ m ∷ after ws
waited_first [] c m e = absurd (no_close c m e)
waited_first (x ∷ ws) c m e = cc

none_waited : (ws : List Mark) (c : Close) → Ok None ≡ answer ws c → (ws ≡ []) × (c ≡ Ok tt)
none_waited [] (Ok tt) e = (refl, refl)
none_waited [] (Err f) e = let z : ◌≡◌ {A = ℕ} 0 1 = cc in absurd (omega arith)
none_waited (x ∷ ws) c e = let z : ◌≡◌ {A = ℕ} 0 1 = cc in absurd (omega arith)

fault_closed : (ws : List Mark) (c : Close) (f : Fault) → Err f ≡ answer ws c → (ws ≡ []) × (c ≡ Err f)
fault_closed [] (Ok tt) f e = let z : ◌≡◌ {A = ℕ} 0 1 = cc in absurd (omega arith)
fault_closed [] (Err h) f e = (refl, cc)
fault_closed (x ∷ ws) c f e = let z : ◌≡◌ {A = ℕ} 0 1 = cc in absurd (omega arith)

-- the three answers, as a match on the result tells them
module _ {ws : List Mark} {c : Close} {r : Result (Option Mark) Fault} {ws' : List Mark} {c' : Close} (g : Gives ws c r ws' c') where
  pub took : (o : Option Mark) (m : Mark) → r ≡ Ok o → o ≡ Some m → ws ≡ m ∷ ws'
  took o m e h = waited_first ws c m (ap Ok (sym h) ∙ sym e ∙ g.answers) ∙ ap (λ l. m ∷ l) (sym g.leaves)

  pub ended : (o : Option Mark) → r ≡ Ok o → o ≡ None → (ws ≡ []) × (ws' ≡ []) × (c ≡ Ok tt)
  ended o e h =
      let n = none_waited ws c (ap Ok (sym h) ∙ sym e ∙ g.answers) in
      (n.0, g.leaves ∙ ap after n.0, n.1)

  pub broke : (f : Fault) → r ≡ Err f → (ws ≡ []) × (ws' ≡ []) × (c ≡ Err f)
  broke f e =
      let n = fault_closed ws c f (sym e ∙ g.answers) in
      (n.0, g.leaves ∙ ap after n.0, n.1)
