-- What a text source gives, in the words of RFC 3629. Assumes nothing.
use Rattle.std.proofs.Common.{◌≡◌, ℕ, zero, suc, ◌+◌, ◌≤◌, true, leb, List, [], ◌∷◌, ◌++◌, map, length, drop, Some, None, Option, sym, refl, ap, ◌∙◌, subst, append_assoc, arith, length-append, Err}
use lib.Utf8.{scalar, scalars, encode, encodes}
use Rattle.std.proofs.lemmas.Bool.{and_from, cond-false, lt-leb}
use Rattle.std.proofs.lemmas.List.{length-drop}
use Rattle.characters.specs.Decoding.{decoded, Stands}
use Rattle.characters.proofs.Standing.{decoded_sound, decoded_none}
use Rattle.marks.specs.declared.mark.Mark.TheVariants.{Char}
use Rattle.marks.specs.Gives.{Close}
use Rattle.marks.specs.Faults.{ill_formed, long_text}
use Rattle.marks.specs.Streams.{Stream, begins, broken}
use Rattle.marks.specs.Spelling.{spelled}
use Rattle.marks.specs.Spells.{spelled_front, spelled_none}
use Rattle.marks.specs.Texts.{as_char, ClosesAt, ReadsText, TextLaw}
use Rattle.marks.proofs.TextSteps.{short_text}

-- the bytes that are left, of which the first is the p-th
record Rest (p : ℕ) (bs : List ℕ) (s : Stream) : Type 0 where
  characters : List ℕ
  rest : List ℕ
  scalar : scalars characters ≡ true
  bytes : bs ≡ encodes characters ++ rest
  marks : s.marks ≡ map Char characters
  close : ClosesAt (p + length (encodes characters)) rest s.close

closes : (n m : ℕ) (rest : List ℕ) (c : Close) → n ≡ m → ClosesAt n rest c → ClosesAt m rest c
closes n m rest c e h = subst (λ k. ClosesAt k rest c) e h

one_more : (p n c : ℕ) (bs : List ℕ) (s : Stream) → decoded bs ≡ Some (c, n) → Rest (p + n) (drop n bs) s → Rest p bs (begins (Char c ∷ []) s)
one_more p n c bs s e r =
    let d = decoded_sound bs c n e in
    let long : p + n + length (encodes r.characters) ≡ p + length (encode c ++ encodes r.characters) = omega (arith, length-append (encode c) (encodes r.characters), d.1) in
    record {
      characters = c ∷ r.characters;
      rest = r.rest;
      scalar = and_from (lib.Utf8.scalar c) (scalars r.characters) d.0 r.scalar;
      bytes = d.3 ∙ ap (λ xs. encode c ++ xs) r.bytes ∙ sym (append_assoc (encode c) (encodes r.characters) r.rest);
      marks = ap (λ ms. Char c ∷ ms) r.marks;
      close = closes _ _ r.rest s.close long r.close;
    }

none_left : (p : ℕ) → Rest p [] (spelled as_char p 0 [])
unfolding spelled
none_left p = record { characters = []; rest = []; scalar = refl; bytes = refl; marks = refl; close = refl }

ill : (p b : ℕ) (bs : List ℕ) → decoded (b ∷ bs) ≡ None → Rest p (b ∷ bs) (broken (ill_formed p))
ill p b bs e =
    let none : (x : ℕ) → Stands (b ∷ bs) x → ⊥ = λ x h. decoded_none (b ∷ bs) x e h in
    record {
      characters = [];
      rest = b ∷ bs;
      scalar = refl;
      bytes = refl;
      marks = refl;
      close = closes p (p + 0) (b ∷ bs) (Err (ill_formed p)) (omega arith) (none, refl);
    }

by_first : (n p b : ℕ) (bs : List ℕ) (o : Option (ℕ × ℕ)) → length (b ∷ bs) ≤ suc n → decoded (b ∷ bs) ≡ o
    → ((q : ℕ) (xs : List ℕ) → length xs ≤ n → Rest q xs (spelled as_char q 0 xs)) → Rest p (b ∷ bs) (spelled as_char p 0 (b ∷ bs))
by_first n p b bs None h e on = subst (Rest p (b ∷ bs)) (sym (spelled_none as_char p b bs e)) (ill p b bs e)
by_first n p b bs (Some d) h e on =
    let t = decoded_sound (b ∷ bs) d.0 d.1 e in
    subst (Rest p (b ∷ bs)) (sym (spelled_front as_char p (b ∷ bs) d.0 d.1 e))
    (one_more p d.1 d.0 (b ∷ bs) (spelled as_char (p + d.1) 0 (drop d.1 (b ∷ bs))) e
    (on (p + d.1) (drop d.1 (b ∷ bs)) (omega (arith, length-drop d.1 (b ∷ bs), t.4))))

-- n is at least the number of the bytes
reads : (n p : ℕ) (bs : List ℕ) → length bs ≤ n → Rest p bs (spelled as_char p 0 bs)
reads zero p [] h = none_left p
reads (suc n) p [] h = none_left p
reads zero p (b ∷ bs) h = absurd (omega arith)
reads (suc n) p (b ∷ bs) h = by_first n p b bs (decoded (b ∷ bs)) h refl (reads n)

from_start : (bs : List ℕ) (s : Stream) → Rest 0 bs s → ReadsText bs s
from_start bs s r = record {
  characters = r.characters;
  rest = r.rest;
  scalar = r.scalar;
  bytes = r.bytes;
  marks = r.marks;
  close = closes _ _ r.rest s.close (omega arith) r.close;
}

pub text_law : TextLaw
text_law bs = record {
  short = λ h. subst (ReadsText bs) (sym (short_text bs (spelled as_char 0 0 bs) h)) (from_start bs (spelled as_char 0 0 bs) (reads (length bs) 0 bs (omega arith)));
  long = λ h. cond-false (leb (length bs) 60000) (spelled as_char 0 0 bs) (broken long_text) (lt-leb (length bs) 60000 h);
}
