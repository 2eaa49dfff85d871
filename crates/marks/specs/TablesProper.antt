-- What a token table gives is proper. Assumes nothing.
use Rattle.std.specs.Prelude.{◌≡◌, ℕ, ◌+◌, Bool, true, false, cond, List, [], ◌∷◌, length, take, drop, Some, None, Option, Ok, Err, Result, refl}
use Rattle.std.proofs.Common.{subst, arith}
use Rattle.characters.specs.WhiteSpace.{white}
use Rattle.marks.specs.declared.mark.Mark.{Mark}
use Rattle.marks.specs.declared.mark.Mark.TheVariants.{Char, Blank, WordChar}
use Rattle.marks.specs.declared.fault.Fault.{Fault}
use Rattle.marks.specs.declared.part.Part.{Part}
use Rattle.marks.specs.declared.part.PartKind.{PartKind}
use Rattle.marks.specs.declared.part.PartKind.TheVariants.{Text, Blanks, Word as WordPart}
use Rattle.marks.specs.declared.token.Token.{Token}
use Rattle.marks.specs.Faults.{not_blank}
use Rattle.marks.specs.Parts.{opened, as_mark, lead, led, rest_of, given_by}
use Rattle.marks.specs.Proper.{proper, AllProper}
use Rattle.marks.specs.Spells.{KeepsProper, spelled_proper}
use Rattle.marks.specs.Streams.{Stream, follows, follows_proper}
use Rattle.marks.specs.Tables.{token_stream, tokens_stream, table_from}
use Rattle.marks.specs.TextsProper.{unless_proper}

only_white : (c i : ℕ) (b : Bool) (m : Mark) → white c ≡ b → cond b (Ok (Blank c)) (Err (not_blank i)) ≡ Ok m → proper m ≡ true
only_white c i true m w e = let same : Blank c ≡ m = cc in subst (λ x. proper x ≡ true) same w
only_white c i false m w e = let z : ◌≡◌ {A = ℕ} 0 1 = cc in absurd (omega arith)

mark_proper : (k : PartKind) (i : ℕ) → KeepsProper (as_mark k i)
mark_proper Text i c m h e = let same : Char c ≡ m = cc in subst (λ x. proper x ≡ true) same h
mark_proper Blanks i c m h e = only_white c i (white c) m refl e
mark_proper WordPart i c m h e = let same : WordChar c ≡ m = cc in subst (λ x. proper x ≡ true) same h

rest_proper : (text : List ℕ) (p : Part) → AllProper (rest_of text p).marks
rest_proper text p = spelled_proper (as_mark p.kind p.token) (mark_proper p.kind p.token) p.at 0 (drop p.at (take p.end text))

led_proper : (k : PartKind) (s : Stream) → AllProper s.marks → AllProper (led (lead k) s).marks
led_proper Text s p = p
led_proper Blanks s p = p
led_proper WordPart s p = p

given_proper : (text : List ℕ) (r : Result (Option Part) Fault) → AllProper (given_by text r).marks
given_proper text (Ok None) = refl
given_proper text (Ok (Some p)) = led_proper p.kind (rest_of text p) (rest_proper text p)
given_proper text (Err f) = refl

tokens_proper : (text : List ℕ) (i : ℕ) (ts : List Token) → AllProper (tokens_stream text i ts).marks
unfolding tokens_stream
tokens_proper text i [] = refl
tokens_proper text i (t ∷ ts) =
    follows_proper (token_stream text i t) (tokens_stream text (i + 1) ts) (given_proper text (opened (length text) t i)) (tokens_proper text (i + 1) ts)

pub table_proper : (text : List ℕ) (ts : List Token) (p : Part) (i : ℕ) → AllProper (table_from text ts p i).marks
table_proper text ts p i =
    unless_proper text (follows (rest_of text p) (tokens_stream text i (drop i ts)))
    (follows_proper (rest_of text p) (tokens_stream text i (drop i ts)) (rest_proper text p) (tokens_proper text i (drop i ts)))
