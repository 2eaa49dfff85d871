-- How a spelled row goes on, byte by byte: the laws of `spelled`. Assumes nothing.
use Rattle.std.specs.Prelude.{◌≡◌, ℕ, zero, suc, ◌+◌, ◌-◌, ◌<◌, ◌≤◌, true, List, [], ◌∷◌, length, drop, Some, None, Ok, Err, Option, Result, slice_index, refl}
use Rattle.std.proofs.Common.{sym, ap, ◌∙◌, add-zero, arith}
use Rattle.std.proofs.Math.Utf8.{scalar}
use Rattle.std.proofs.lemmas.List.{drop_more, drop_all, drop-drop}
use Rattle.std.proofs.lemmas.Bool.{and_from}
use Rattle.characters.specs.Decoding.{decoded}
use Rattle.characters.proofs.Standing.{decoded_sound}
use Rattle.marks.specs.declared.mark.Mark.{Mark}
use Rattle.marks.specs.declared.fault.Fault.{Fault}
use Rattle.marks.specs.Faults.{ill_formed}
use Rattle.marks.specs.Proper.{proper, AllProper}
use Rattle.marks.specs.Streams.{Stream, ended, broken}
use Rattle.marks.specs.Spelling.{first, letter, spelled}

-- the bytes of the character before are passed over
pub spelled_skip : (f : ℕ → Result Mark Fault) (p k : ℕ) (bs : List ℕ) → spelled f p k bs ≡ spelled f (p + k) 0 (drop k bs)
unfolding spelled
spelled_skip f p zero bs = ap (λ q. spelled f q 0 bs) (sym (add-zero p))
spelled_skip f p (suc k) [] = refl
spelled_skip f p (suc k) (b ∷ bs) = spelled_skip f (p + 1) k bs ∙ ap (λ q. spelled f q 0 (drop k bs)) (omega arith)

pub spelled_end : (f : ℕ → Result Mark Fault) (p : ℕ) (bs : List ℕ) → length bs ≤ p → spelled f p 0 (drop p bs) ≡ ended
unfolding spelled
spelled_end f p bs h = ap (spelled f p 0) (drop_all p bs h)

-- a character stands in front, or none does
pub spelled_front : (f : ℕ → Result Mark Fault) (p : ℕ) (bs : List ℕ) (c n : ℕ) → decoded bs ≡ Some (c, n) → spelled f p 0 bs ≡ first (f c) (spelled f (p + n) 0 (drop n bs))
unfolding spelled
spelled_front f p [] c n e = let d = decoded_sound [] c n e in absurd (omega (arith, d.4, d.5))
spelled_front f p (b ∷ bs) c n e =
    let some : 1 ≤ n = (decoded_sound (b ∷ bs) c n e).4 in
    ap (λ o. letter f p o (λ k. spelled f (p + 1) (k - 1) bs)) e ∙ ap (first (f c)) (spelled_skip f (p + 1) (n - 1) bs ∙ behind n some)
  where
    behind : (n : ℕ) → 1 ≤ n → spelled f (p + 1 + (n - 1)) 0 (drop (n - 1) bs) ≡ spelled f (p + n) 0 (drop n (b ∷ bs))
    behind zero h = absurd (omega arith)
    behind (suc n) h = let q : p + 1 + (suc n - 1) ≡ p + suc n = omega arith in let k : suc n - 1 ≡ n = omega arith in rw (q, k)

pub spelled_none : (f : ℕ → Result Mark Fault) (p b : ℕ) (bs : List ℕ) → decoded (b ∷ bs) ≡ None → spelled f p 0 (b ∷ bs) ≡ broken (ill_formed p)
unfolding spelled
spelled_none f p b bs e = ap (λ o. letter f p o (λ k. spelled f (p + 1) (k - 1) bs)) e

-- the same at the byte p of a text
pub spelled_char : (f : ℕ → Result Mark Fault) (p : ℕ) (bs : List ℕ) (c n : ℕ) → decoded (drop p bs) ≡ Some (c, n) → spelled f p 0 (drop p bs) ≡ first (f c) (spelled f (p + n) 0 (drop (p + n) bs))
spelled_char f p bs c n e = spelled_front f p (drop p bs) c n e ∙ ap (λ xs. first (f c) (spelled f (p + n) 0 xs)) (drop-drop n p bs)

pub spelled_ill : (f : ℕ → Result Mark Fault) (p : ℕ) (bs : List ℕ) → p < length bs → decoded (drop p bs) ≡ None → spelled f p 0 (drop p bs) ≡ broken (ill_formed p)
spelled_ill f p bs h e =
    let d = drop_more bs p 0 h in
    ap (spelled f p 0) d ∙ spelled_none f p (slice_index bs p) (drop (p + 1) bs) (ap decoded (sym d) ∙ e)

-- proper marks for every character make a proper row
abbrev pub KeepsProper : (ℕ → Result Mark Fault) → Type 0
KeepsProper f = (c : ℕ) (m : Mark) → scalar c ≡ true → f c ≡ Ok m → proper m ≡ true

first_proper : (r : Result Mark Fault) (s : Stream) → ((m : Mark) → r ≡ Ok m → proper m ≡ true) → AllProper s.marks → AllProper (first r s).marks
first_proper (Ok m) s p q = and_from (proper m) _ (p m refl) q
first_proper (Err e) s p q = refl

letter_proper : (f : ℕ → Result Mark Fault) (p : ℕ) (bs : List ℕ) (o : Option (ℕ × ℕ)) (rest : ℕ → Stream) → KeepsProper f → decoded bs ≡ o → ((n : ℕ) → AllProper (rest n).marks) → AllProper (letter f p o rest).marks
letter_proper f p bs None rest k e q = refl
letter_proper f p bs (Some d) rest k e q = first_proper (f d.0) (rest d.1) (λ m r. k d.0 m (decoded_sound bs d.0 d.1 e).0 r) (q d.1)

pub spelled_proper : (f : ℕ → Result Mark Fault) → KeepsProper f → (p k : ℕ) (bs : List ℕ) → AllProper (spelled f p k bs).marks
unfolding spelled
spelled_proper f h p k [] = refl
spelled_proper f h p zero (b ∷ bs) = letter_proper f p (b ∷ bs) (decoded (b ∷ bs)) (λ n. spelled f (p + 1) (n - 1) bs) h refl (λ n. spelled_proper f h (p + 1) (n - 1) bs)
spelled_proper f h p (suc k) (b ∷ bs) = spelled_proper f h (p + 1) k bs
