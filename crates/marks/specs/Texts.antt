-- The text source: each character of a text as a Char.
--     text_stream bs    what a text source over the bytes bs gives
--     ReadsText bs s    in the words of RFC 3629: the bytes are those of some characters, which come as Chars, and then
--                       either nothing is left and the end closes, or no character stands there and that byte's fault closes
--     TextLaw           a text of at most 60,000 bytes is read so, and of a longer one nothing
-- Assumes nothing.
use Rattle.std.specs.Prelude.{◌≡◌, ℕ, ◌<◌, ◌≤◌, true, cond, List, [], ◌∷◌, ◌++◌, map, length, drop, Ok, Result, nat_le, Err}
use Rattle.std.proofs.Math.Utf8.{scalars, encodes}
use Rattle.characters.specs.Decoding.{Stands}
use Rattle.marks.specs.declared.mark.Mark.{Mark}
use Rattle.marks.specs.declared.mark.Mark.TheVariants.{Char}
use Rattle.marks.specs.declared.fault.Fault.{Fault}
use Rattle.marks.specs.Gives.{Close}
use Rattle.marks.specs.Faults.{ill_formed, long_text}
use Rattle.marks.specs.Streams.{Stream, broken}
use Rattle.marks.specs.Spelling.{spelled}

-- how much of a text of n bytes is read
abbrev pub readable : ℕ → ℕ
readable n = cond (nat_le n 60000) n 0

-- how a source closes that has given all that a text of n bytes holds
abbrev pub close_of : ℕ → Close
close_of n = cond (nat_le n 60000) (Ok tt) (Err long_text)

-- a text that is too long gives nothing, whatever it holds
abbrev pub unless_long : List ℕ → Stream → Stream
unless_long bs s = cond (nat_le (length bs) 60000) s (broken long_text)

abbrev pub as_char : ℕ → Result Mark Fault
as_char c = Ok (Char c)

-- from the byte p on
abbrev pub text_from : List ℕ → ℕ → Stream
text_from bs p = unless_long bs (spelled as_char p 0 (drop p bs))

abbrev pub text_stream : List ℕ → Stream
text_stream bs = text_from bs 0

abbrev pub ClosesAt : ℕ → List ℕ → Close → Type 0
ClosesAt n [] c = c ≡ Ok tt
ClosesAt n (b ∷ bs) c = ((x : ℕ) → Stands (b ∷ bs) x → ⊥) × (c ≡ Err (ill_formed n))

pub record ReadsText (bs : List ℕ) (s : Stream) : Type 0 where
  pub characters : List ℕ
  pub rest : List ℕ
  pub scalar : scalars characters ≡ true
  pub bytes : bs ≡ encodes characters ++ rest
  pub marks : s.marks ≡ map Char characters
  pub close : ClosesAt (length (encodes characters)) rest s.close

pub record TextRead (bs : List ℕ) : Type 0 where
  pub short : length bs ≤ 60000 → ReadsText bs (text_stream bs)
  pub long : 60000 < length bs → text_stream bs ≡ broken long_text

abbrev pub TextLaw : Type 0
TextLaw = (bs : List ℕ) → TextRead bs
