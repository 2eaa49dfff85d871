-- A run that is read mark by mark. Assumes nothing.
use Rattle.std.proofs.Common.{◌≡◌, ℕ, ◌<◌, ◌≤◌, true, cond, List, [], ◌∷◌, ◌++◌, length, Some, None, sym, refl, ap, ◌∙◌, subst}
use Rattle.std.proofs.lemmas.Bool.{lt-ltb, le-ltb, and_parts}
use Rattle.characters.specs.WhiteSpace.{white}
use Rattle.marks.specs.declared.mark.Mark.{Mark}
use Rattle.marks.specs.declared.mark.Mark.TheVariants.{Char, Blank, LineEnd, Word, WordChar}
use Rattle.marks.specs.Proper.{proper, all_proper, AllProper}
use Rattle.blanks.specs.Given.{inside, run_too_long, blanks, giving}
use Rattle.blanks.specs.OneMark.{code}
use Rattle.blanks.specs.Ahead.{behind_run}
use Rattle.blanks.specs.Keeps.{space_proper, push_proper}

-- a blank more, and one too many
pub goes_on : (cs : List ℕ) (c : ℕ) (ws : List Mark) → length cs < 1000 → giving (inside cs) (Blank c ∷ ws) ≡ giving (inside (cs ++ c ∷ [])) ws
goes_on cs c ws h = ap (λ b. cond b (giving (inside (cs ++ c ∷ [])) ws) run_too_long) (lt-ltb (length cs) 1000 h)

pub too_many : (cs : List ℕ) (c : ℕ) (ws : List Mark) → 1000 ≤ length cs → giving (inside cs) (Blank c ∷ ws) ≡ run_too_long
too_many cs c ws h = ap (λ b. cond b (giving (inside (cs ++ c ∷ [])) ws) run_too_long) (le-ltb (length cs) 1000 h)

pub pushed_proper : (cs cs' : List ℕ) (c : ℕ) → (length cs < 1000) × (cs' ≡ cs ++ c ∷ []) → AllProper (blanks cs) → white c ≡ true → AllProper (blanks cs')
pushed_proper cs cs' c h p q = subst (λ (l : List ℕ). AllProper (blanks l)) (sym h.1) (push_proper cs c p q)

-- a mark that may stand in a run stands there as a blank
pub as_blank : (m : Mark) (c : ℕ) (cs : List ℕ) (ws : List Mark) → code m ≡ Some c → giving (inside cs) (m ∷ ws) ≡ giving (inside cs) (Blank c ∷ ws)
as_blank (Char x) c cs ws e = cc
as_blank (Blank x) c cs ws e = let z : x ≡ c = cc in ap (λ (n : ℕ). giving (inside cs) (Blank n ∷ ws)) z
as_blank LineEnd c cs ws e = let z : 0x20 ≡ c = cc in ap (λ (n : ℕ). giving (inside cs) (Blank n ∷ ws)) z
as_blank Word c cs ws e = cc
as_blank (WordChar x) c cs ws e = cc

-- the same, as a run tells it that holds a blank more
pub one_more : (cs cs' : List ℕ) (m : Mark) (c : ℕ) (ws ws' : List Mark) → ws ≡ m ∷ ws' → code m ≡ Some c → (length cs < 1000) × (cs' ≡ cs ++ c ∷ []) → giving (inside cs) ws ≡ giving (inside cs') ws'
one_more cs cs' m c ws ws' first e h =
    ap (giving (inside cs)) first ∙ as_blank m c cs ws' e ∙ goes_on cs c ws' h.0 ∙ ap (λ l. giving (inside l) ws') (sym h.1)

pub code_proper : (m : Mark) (c : ℕ) → code m ≡ Some c → proper m ≡ true → white c ≡ true
code_proper (Char x) c e p = cc
code_proper (Blank x) c e p = let z : x ≡ c = cc in subst (λ (n : ℕ). white n ≡ true) z p
code_proper LineEnd c e p = let z : 0x20 ≡ c = cc in subst (λ (n : ℕ). white n ≡ true) z space_proper
code_proper Word c e p = cc
code_proper (WordChar x) c e p = cc

-- directly after a word, a mark that may not stand in a run passes
pub passes : (m : Mark) (ws : List Mark) → code m ≡ None → giving (inside []) (m ∷ ws) ≡ behind_run (Some m) ws
passes (Char x) ws e = refl
passes (Blank x) ws e = cc
passes LineEnd ws e = cc
passes Word ws e = refl
passes (WordChar x) ws e = refl

-- the mark that waits first is proper
pub first_proper : (ws ws' : List Mark) (m : Mark) → ws ≡ m ∷ ws' → AllProper ws → proper m ≡ true
first_proper ws ws' m e p = (and_parts (proper m) (all_proper ws') (subst AllProper e p)).0
