-- Samples of reading, writing and adding, by what they give.
--     utf8 t            the bytes of the text t
--     alone n a         the list of one mailbox, with the display name n, or none, and the address a
--     token k s n       the token of the kind k whose part begins at the byte s and has n bytes
--     text_at, blanks_at, line_end, word_at    the tokens of the four kinds
--     Input             what a sample is read from
--     layered s         what a read answers of a blank layer over a source that gives s
--     answer_to i       what a read of the input i answers
--     in_numbers r      the answer r with its fault, if it is one, in three numbers: the layer, the ground, the place
--     ReadAs i l       the input i is accepted and read as the list l
--     adding n a        what the addition of a mailbox to the empty list answers
--     Sample            a sample, by its kind
--     Holds s           the sample s is right
--     row               a text, the list that it reads as, and the text that this list is written as again
--     token_row         the same of tokens under a blank layer
--     samples           the collection; `SamplesHold` says that all of it is right
-- Assumes nothing.
use Rattle.std.specs.Prelude.{◌≡◌, ℕ, true, List, [], ◌∷◌, Some, None, Ok, Err, codes, Option, Result}
use Prim.Native.String.{String}
use Rattle.std.proofs.Math.Utf8.{encodes}
use Rattle.std.specs.List.{AllByRecursion as Every}
use Rattle.marks.specs.declared.mark.Mark.{Mark}
use Rattle.marks.specs.declared.fault.Fault.{Fault}
use Rattle.marks.specs.declared.token.Token.{Token}
use Rattle.marks.specs.Numbers.{layer_number, ground_number}
use Rattle.marks.specs.Streams.{Stream}
use Rattle.marks.specs.Tables.{table_stream}
use Rattle.marks.specs.Texts.{text_stream}
use Rattle.blanks.specs.Given.{given, closed}
use Rattle.addresses.specs.Mailboxes.{mailbox, Entry, loose, group}
use Rattle.addresses.specs.Reading.{reading}
use Rattle.addresses.specs.Written.{written_bytes}
use Rattle.addresses.specs.Additions.{added, new_mailbox}
use Rattle.addresses.specs.Fine.{part}
use Rattle.addresses.specs.ReadsAs.{ReadsAs}

abbrev pub utf8 : String → List ℕ
utf8 t = encodes (codes t)

abbrev pub alone : Option (List ℕ) → List ℕ → List Entry
alone n a = loose (mailbox n a) ∷ []

abbrev pub token : ℕ → ℕ → ℕ → Token
token k s n = record { kind = k; start = s; length = n }

abbrev pub text_at : ℕ → ℕ → Token
text_at s n = token 1 s n

abbrev pub blanks_at : ℕ → ℕ → Token
blanks_at s n = token 2 s n

-- its part is not looked at
abbrev pub line_end : Token
line_end = token 3 0 0

abbrev pub word_at : ℕ → ℕ → Token
word_at s n = token 4 s n

-- ── what is read, and what comes of it ──

pub data Input : Type 0 where
  -- a text source over the bytes
  from_text : List ℕ → Input
  -- a blank layer over a table of the tokens over the bytes
  from_tokens : List ℕ → List Token → Input
  -- some source of the marks that then ends
  from_marks : List Mark → Input

abbrev pub layered : Stream → Result (List Entry) Fault
layered s = (reading (given s.marks) (closed s.marks s.close)).answer

abbrev pub answer_to : Input → Result (List Entry) Fault
answer_to (from_text bs) = (reading (text_stream bs).marks (text_stream bs).close).answer
answer_to (from_tokens bs ts) = layered (table_stream bs ts)
answer_to (from_marks ms) = (reading ms (Ok tt)).answer

abbrev pub in_numbers : Result (List Entry) Fault → Result (List Entry) (ℕ × ℕ × ℕ)
in_numbers (Ok l) = Ok l
in_numbers (Err f) = Err (layer_number f.layer, ground_number f.ground, f.place)

abbrev pub ReadAs : Input → List Entry → Type 0
ReadAs (from_text bs) l = ReadsAs bs l
ReadAs (from_tokens bs ts) l = answer_to (from_tokens bs ts) ≡ Ok l
ReadAs (from_marks ms) l = answer_to (from_marks ms) ≡ Ok l

-- what the addition of a mailbox to the empty list answers, its name, if there is one, and its address given as UTF-8
abbrev pub adding : Option (List ℕ) → List ℕ → Result (List Entry) Fault
adding n a = added [] (new_mailbox n a)

-- ── the kinds ──

infixr 70 ◌read_as◌ ◌refused_with◌ ◌written_as◌
infixr 69 ◌also◌
pub data Sample : Type 0 where
  -- the input is read as the list
  ◌read_as◌ : Input → List Entry → Sample
  -- the read of it is refused, with the numbers of the layer and the ground, and the place
  ◌refused_with◌ : Input → ℕ × ℕ × ℕ → Sample
  -- the list is written as the text
  ◌written_as◌ : List Entry → List ℕ → Sample
  -- the mailbox of a name, if there is one, and an address is added to the empty list, which is then this list and written so
  leaves : Option (List ℕ) → List ℕ → List Entry → List ℕ → Sample
  -- it is refused, with such numbers
  not_added : Option (List ℕ) → List ℕ → ℕ × ℕ × ℕ → Sample
  -- it is refused so under every name that a mailbox may have
  not_added_named : List ℕ → ℕ × ℕ × ℕ → Sample
  -- both are right
  ◌also◌ : Sample → Sample → Sample

abbrev pub Holds : Sample → Type 0
Holds (i read_as l) = ReadAs i l
Holds (i refused_with f) = in_numbers (answer_to i) ≡ Err f
Holds (l written_as bs) = written_bytes l ≡ bs
Holds (leaves n a l bs) = (adding n a ≡ Ok l) × (written_bytes l ≡ bs)
Holds (not_added n a f) = in_numbers (adding n a) ≡ Err f
Holds (not_added_named a f) = (n : List ℕ) → part n ≡ true → in_numbers (adding (Some (encodes n)) a) ≡ Err f
Holds (s also t) = Holds s × Holds t

-- ── the collection ──

abbrev pub row : String → List Entry → String → Sample
row t l again = from_text (utf8 t) read_as l also l written_as utf8 again

abbrev pub token_row : String → List Token → List Entry → String → Sample
token_row t ts l again = from_tokens (utf8 t) ts read_as l also l written_as utf8 again

abbrev pub samples : List Sample
samples =
    -- read from a text
    row "" [] ""
    ∷ row "foo:;" (group (codes "foo") [] ∷ []) "\"foo\":;"
    ∷ from_text (utf8 "foo: ") refused_with (3, 13, 5)
    ∷ from_text (utf8 ";") refused_with (3, 11, 0)
    ∷ row "g: a@b;, c@d" (group (codes "g") (mailbox None (codes "a@b") ∷ []) ∷ loose (mailbox None (codes "c@d")) ∷ []) "\"g\": a@b;, c@d"
    ∷ row "a@b:c" (alone None (codes "a@b:c")) "a@b:c"
    ∷ row "\"a\\\"b\" <c@d>" (alone (Some (codes "a\"b")) (codes "c@d")) "\"a\\\"b\" <c@d>"
    ∷ row "\"a\" <x@y>, \"b\"c <z@w>" (loose (mailbox (Some (codes "a")) (codes "x@y")) ∷ loose (mailbox (Some (codes "bc")) (codes "z@w")) ∷ []) "\"a\" <x@y>, \"bc\" <z@w>"
    ∷ row "(x (y) z) a@b" (alone None (codes "a@b")) "a@b"
    -- added to an empty list
    ∷ leaves None (utf8 " a@b") (alone None (codes " a@b")) (utf8 "< a@b>")
    ∷ not_added None (utf8 "a,b>@c") (4, 42, 0)
    ∷ leaves None (utf8 "a>b@c") (alone None (codes "a>b@c")) (utf8 "a>b@c")
    ∷ not_added (Some (utf8 "n")) (utf8 "a>b@c") (4, 42, 0)
    ∷ not_added_named (utf8 "a>b@c") (4, 42, 0)
    -- read from tokens under the blank layer
    ∷ token_row "A  B <a@b>" (word_at 0 1 ∷ blanks_at 1 1 ∷ line_end ∷ blanks_at 2 1 ∷ word_at 3 1 ∷ text_at 4 6 ∷ []) (alone (Some (codes "AB")) (codes "a@b")) "\"AB\" <a@b>"
    ∷ []

abbrev pub SamplesHold : Type 0
SamplesHold = Every Holds samples
