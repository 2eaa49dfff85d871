-- What a text source gives of well-formed text, and that it closes with the end for no other.
--     text_of_characters   a text of at most 60,000 bytes gives each of its characters as a Char, and then the end
--     characters_of_text   a text whose source closes with the end is the text of some characters, which come as Chars
-- Assumes nothing.
use Rattle.std.proofs.Common.{◌≡◌, ℕ, ◌+◌, ◌<◌, ◌≤◌, true, List, [], ◌∷◌, ◌++◌, map, length, sym, refl, ap, ◌∙◌, ⊎_elim, Ok, Err}
use lib.Utf8.{scalar, scalars, encode, encodes}
use Rattle.std.proofs.lemmas.List.{append-nil, drop_at}
use Rattle.std.proofs.lemmas.Bool.{and_parts, cases_lt}
use Rattle.characters.proofs.Standing.{decoded_encode}
use Rattle.marks.specs.declared.mark.Mark.TheVariants.{Char}
use Rattle.marks.specs.Gives.{Close}
use Rattle.marks.specs.Faults.{long_text}
use Rattle.marks.specs.Streams.{Stream, begins}
use Rattle.marks.specs.Spelling.{spelled}
use Rattle.marks.specs.Spells.{spelled_front}
use Rattle.marks.specs.Texts.{as_char, ClosesAt, text_stream}
use Rattle.marks.proofs.TextSteps.{short_text}
use Rattle.marks.proofs.TextLaw.{text_law}

abbrev pub all_of : List ℕ → Stream
all_of cs = record { marks = map Char cs; close = (Ok tt) }

spelled_all : (p : ℕ) (cs : List ℕ) → scalars cs ≡ true → spelled as_char p 0 (encodes cs) ≡ all_of cs
unfolding spelled
spelled_all p [] s = refl
spelled_all p (c ∷ cs) s =
    let both = and_parts (scalar c) (scalars cs) s in
    let n = length (encode c) in
    spelled_front as_char p (encode c ++ encodes cs) c n (decoded_encode c (encodes cs) both.0)
    ∙ ap (λ bs. begins (Char c ∷ []) (spelled as_char (p + n) 0 bs)) (drop_at (encode c) (encodes cs) n refl)
    ∙ ap (begins (Char c ∷ [])) (spelled_all (p + n) cs both.1)

pub text_of_characters : (cs : List ℕ) → scalars cs ≡ true → length (encodes cs) ≤ 60000 → text_stream (encodes cs) ≡ all_of cs
text_of_characters cs s short = short_text (encodes cs) (spelled as_char 0 0 (encodes cs)) short ∙ spelled_all 0 cs s

pub record CharactersOf (bs : List ℕ) : Type 0 where
  pub characters : List ℕ
  pub scalar : scalars characters ≡ true
  pub bytes : bs ≡ encodes characters
  pub few : length bs ≤ 60000
  pub marks : (text_stream bs).marks ≡ map Char characters

nothing_left : (n : ℕ) (rest : List ℕ) (x : Close) → x ≡ Ok tt → ClosesAt n rest x → rest ≡ []
nothing_left n [] x e c = refl
nothing_left n (b ∷ rest) x e c = let f = c.1 in cc

pub characters_of_text : (bs : List ℕ) → (text_stream bs).close ≡ Ok tt → CharactersOf bs
characters_of_text bs e = ⊎_elim long short (cases_lt 60000 (length bs))
  where
    long : 60000 < length bs → CharactersOf bs
    long h =
        let f : Err long_text ≡ (Ok tt) = sym (ap (λ (s : Stream). s.close) ((text_law bs).long h)) ∙ e in
        cc

    short : length bs ≤ 60000 → CharactersOf bs
    short h =
        let r = (text_law bs).short h in
        let none = nothing_left (length (encodes r.characters)) r.rest (text_stream bs).close e r.close in
        record {
          characters = r.characters;
          scalar = r.scalar;
          bytes = r.bytes ∙ ap (λ xs. encodes r.characters ++ xs) none ∙ append-nil (encodes r.characters);
          few = h;
          marks = r.marks;
        }
