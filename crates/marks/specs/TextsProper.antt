-- What a text gives is proper. Assumes nothing.
use Rattle.std.specs.Prelude.{◌≡◌, ℕ, true, List, length, drop, nat_le, refl}
use Rattle.std.proofs.Common.{subst}
use Rattle.std.proofs.lemmas.Bool.{cond_both}
use Rattle.marks.specs.declared.mark.Mark.TheVariants.{Char}
use Rattle.marks.specs.Faults.{long_text}
use Rattle.marks.specs.Proper.{proper, AllProper}
use Rattle.marks.specs.Streams.{Stream, broken}
use Rattle.marks.specs.Spelling.{spelled}
use Rattle.marks.specs.Spells.{KeepsProper, spelled_proper}
use Rattle.marks.specs.Texts.{unless_long, as_char, text_from}

pub unless_proper : (bs : List ℕ) (s : Stream) → AllProper s.marks → AllProper (unless_long bs s).marks
unless_proper bs s p = cond_both (nat_le (length bs) 60000) s (broken long_text) (λ (t : Stream). AllProper t.marks) (λ _. p) (λ _. refl)

pub char_proper : KeepsProper as_char
char_proper c m h e = let same : Char c ≡ m = cc in subst (λ x. proper x ≡ true) same h

pub text_proper : (bs : List ℕ) (p : ℕ) → AllProper (text_from bs p).marks
text_proper bs p = unless_proper bs (spelled as_char p 0 (drop p bs)) (spelled_proper as_char char_proper p 0 (drop p bs))
