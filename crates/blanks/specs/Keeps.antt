-- What is given of proper marks is proper.
--     giving_proper    of a row
--     ahead_proper     by a layer that holds proper marks
-- Assumes nothing.
use Rattle.std.specs.Prelude.{◌≡◌, ℕ, zero, suc, true, cond, List, [], ◌∷◌, ◌++◌, length, drop, Some, None, Option, nat_lt, refl}
use Rattle.std.proofs.Common.{subst, sym}
use Rattle.std.proofs.lemmas.Bool.{and_parts, and_from, cond_both}
use Rattle.std.proofs.lemmas.List.{map_push}
use Rattle.characters.specs.WhiteSpace.{white}
use Rattle.marks.specs.declared.mark.Mark.{Mark}
use Rattle.marks.specs.declared.mark.Mark.TheVariants.{Char, Blank, LineEnd, Word, WordChar}
use Rattle.marks.specs.Proper.{proper, all_proper, AllProper, proper-++}
use Rattle.blanks.specs.declared.state.State.{State}
use Rattle.blanks.specs.declared.state.State.TheVariants.{Plain, AfterWord, Holding, Long}
use Rattle.blanks.specs.declared.held.Held.{Held}
use Rattle.blanks.specs.Kept.{beside, behind}
use Rattle.blanks.specs.Given.{Given, Place, inside, outside, after, flat, run_too_long, blanks, giving}
use Rattle.blanks.specs.Ahead.{behind_run, standing, waits}

pub space_proper : white 0x20 ≡ true
unfolding white
space_proper = refl

flat_proper : (m : Mark) → proper m ≡ true → proper (flat m) ≡ true
flat_proper (Char c) p = p
flat_proper (Blank c) p = p
flat_proper LineEnd p = space_proper
flat_proper Word p = p
flat_proper (WordChar c) p = p

one_proper : (m : Mark) → proper m ≡ true → AllProper (m ∷ [])
one_proper m p = and_from (proper m) true p refl

pub push_proper : (cs : List ℕ) (c : ℕ) → AllProper (blanks cs) → white c ≡ true → AllProper (blanks (cs ++ c ∷ []))
push_proper cs c p q = subst AllProper (sym (map_push Blank cs c)) (proper-++ (blanks cs) (Blank c ∷ []) p (one_proper (Blank c) q))

abbrev Kept : Given → Type 0
Kept g = AllProper g.marks

longer : (cs : List ℕ) (g : Given) → Kept g → Kept (cond (nat_lt (length cs) 1000) g run_too_long)
longer cs g p = cond_both (nat_lt (length cs) 1000) g run_too_long Kept (λ _. p) (λ _. refl)

abbrev Inside : Place → Type 0
Inside outside = AllProper []
Inside (inside cs) = AllProper (blanks cs)

after_proper : (m : Mark) → Inside (after m)
after_proper (Char c) = refl
after_proper (Blank c) = refl
after_proper LineEnd = refl
after_proper Word = refl
after_proper (WordChar c) = refl

pub giving_proper : (p : Place) (ms : List Mark) → Inside p → AllProper ms → Kept (giving p ms)
giving_proper outside [] i q = refl
giving_proper outside (m ∷ ms) i q =
    let h = and_parts (proper m) (all_proper ms) q in
    proper-++ (flat m ∷ []) (giving (after m) ms).marks (one_proper (flat m) (flat_proper m h.0)) (giving_proper (after m) ms (after_proper m) h.1)
giving_proper (inside cs) [] i q = i
giving_proper (inside cs) (Char c ∷ ms) i q =
    let h = and_parts (proper (Char c)) (all_proper ms) q in
    proper-++ (blanks cs) (Char c ∷ (giving outside ms).marks) i (and_from (proper (Char c)) (all_proper (giving outside ms).marks) h.0 (giving_proper outside ms refl h.1))
giving_proper (inside cs) (Blank c ∷ ms) i q =
    let h = and_parts (proper (Blank c)) (all_proper ms) q in
    longer cs (giving (inside (cs ++ c ∷ [])) ms) (giving_proper (inside (cs ++ c ∷ [])) ms (push_proper cs c i h.0) h.1)
giving_proper (inside cs) (LineEnd ∷ ms) i q = longer cs (giving (inside (cs ++ 0x20 ∷ [])) ms) (giving_proper (inside (cs ++ 0x20 ∷ [])) ms (push_proper cs 0x20 i space_proper) q)
giving_proper (inside cs) (Word ∷ ms) i q = giving_proper (inside []) ms refl q
giving_proper (inside cs) (WordChar c ∷ ms) i q =
    let h = and_parts (proper (WordChar c)) (all_proper ms) q in
    proper-++ (blanks cs) (WordChar c ∷ (giving (inside []) ms).marks) i (and_from (proper (WordChar c)) (all_proper (giving (inside []) ms).marks) h.0 (giving_proper (inside []) ms refl h.1))

drop_proper : (n : ℕ) (cs : List ℕ) → AllProper (blanks cs) → AllProper (blanks (drop n cs))
drop_proper zero cs p = p
drop_proper (suc n) [] p = p
drop_proper (suc n) (c ∷ cs) p = drop_proper n cs (and_parts (white c) (all_proper (blanks cs)) p).1

behind_proper : (b : Option Mark) (ws : List Mark) → AllProper (beside b) → AllProper ws → Kept (behind_run b ws)
behind_proper None ws p q = giving_proper outside ws refl q
behind_proper (Some m) ws p q = proper-++ (m ∷ []) (giving (after m) ws).marks p (giving_proper (after m) ws (after_proper m) q)

standing_proper : (s : State) (cs : List ℕ) (ws : List Mark) → AllProper (blanks cs) → AllProper (behind s) → AllProper ws → Kept (standing s cs ws)
standing_proper Plain cs ws p q w = giving_proper outside ws refl w
standing_proper AfterWord cs ws p q w = giving_proper (inside []) ws refl w
standing_proper (Holding from b) cs ws p q w = proper-++ (blanks (drop from cs)) (behind_run b ws).marks (drop_proper from cs p) (behind_proper b ws q w)
standing_proper Long cs ws p q w = refl

pub ahead_proper : (h : Held) (ws : List Mark) → AllProper ws → AllProper (waits h ws)
ahead_proper h ws w = standing_proper h.state h.run ws h.white h.proper w
