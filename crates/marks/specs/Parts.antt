-- What a token names: a raw line end, or a part of the text that gives its characters as marks of one kind.
--     opened n t i        what the token t, the i-th of a table over a text of n bytes, opens as: a part, or none at a raw line
--                         end. The order of the checks is the kind, then whether the part lies inside the text, then whether
--                         blanks are there at all
--     rest_of text p      what is left of a part gives
--     given_by text r     what a token gives that opens as r
-- Assumes nothing.
use Rattle.std.specs.Prelude.{ℕ, ◌+◌, cond, List, [], ◌∷◌, take, drop, Some, None, Ok, Err, Option, Result, ◌==◌, nat_le}
use Rattle.characters.specs.WhiteSpace.{white}
use Rattle.marks.specs.declared.mark.Mark.{Mark}
use Rattle.marks.specs.declared.mark.Mark.TheVariants.{Char, Blank, LineEnd, Word, WordChar}
use Rattle.marks.specs.declared.fault.Fault.{Fault}
use Rattle.marks.specs.declared.fault.Ground.{Ground}
use Rattle.marks.specs.declared.fault.Ground.TheVariants.{UnknownKind}
use Rattle.marks.specs.declared.part.Part.{Part}
use Rattle.marks.specs.declared.part.PartKind.{PartKind}
use Rattle.marks.specs.declared.part.PartKind.TheVariants.{Text, Blanks, Word as WordPart}
use Rattle.marks.specs.declared.token.Token.{Token}
use Rattle.marks.specs.declared.token_kind.TokenKind.{TokenKind}
use Rattle.marks.specs.declared.token_kind.TokenKind.TheVariants.{Part as PartOf, RawLineEnd}
use Rattle.marks.specs.Faults.{refused_token, part_outside, not_blank}
use Rattle.marks.specs.Streams.{Stream, ended, broken, begins}
use Rattle.marks.specs.Spelling.{spelled}

-- the part, if it lies inside the text of n bytes
abbrev pub placed : ℕ → PartKind → Token → ℕ → Result Part Fault
placed n k t i =
    cond (nat_le (t.start + t.length) n) (Ok (record { kind = k; token = i; at = t.start; end = t.start + t.length })) (Err (part_outside i))

-- a part that is to hold blanks is not empty
abbrev pub unless_empty : ℕ → ℕ → Result Part Fault → Result Part Fault
unless_empty n i (Ok p) = cond (n == 0) (Err (not_blank i)) (Ok p)
unless_empty n i (Err f) = Err f

abbrev pub part_of : ℕ → PartKind → Token → ℕ → Result Part Fault
part_of n Text t i = placed n Text t i
part_of n Blanks t i = unless_empty t.length i (placed n Blanks t i)
part_of n WordPart t i = placed n WordPart t i

-- what the number of a kind stands for
abbrev pub kind_of : ℕ → Result TokenKind Ground
kind_of k =
    cond (k == 1) (Ok (PartOf Text))
    (cond (k == 2) (Ok (PartOf Blanks))
    (cond (k == 3) (Ok RawLineEnd)
    (cond (k == 4) (Ok (PartOf WordPart))
    (Err UnknownKind))))

abbrev pub stretched : Result Part Fault → Result (Option Part) Fault
stretched (Ok p) = Ok (Some p)
stretched (Err f) = Err f

abbrev pub opened_as : ℕ → Token → ℕ → Result TokenKind Ground → Result (Option Part) Fault
opened_as n t i (Ok (PartOf k)) = stretched (part_of n k t i)
opened_as n t i (Ok RawLineEnd) = Ok None
opened_as n t i (Err g) = Err (refused_token g i)

abbrev pub opened : ℕ → Token → ℕ → Result (Option Part) Fault
opened n t i = opened_as n t i (kind_of t.kind)

-- the mark that a character of the token i gives
abbrev pub as_mark : PartKind → ℕ → ℕ → Result Mark Fault
as_mark Text i c = Ok (Char c)
as_mark Blanks i c = cond (white c) (Ok (Blank c)) (Err (not_blank i))
as_mark WordPart i c = Ok (WordChar c)

-- the mark that stands before the characters
abbrev pub lead : PartKind → Option Mark
lead Text = None
lead Blanks = None
lead WordPart = Some Word

abbrev pub led : Option Mark → Stream → Stream
led None s = s
led (Some m) s = begins (m ∷ []) s

-- a character has to end where its part ends, too
abbrev pub rest_of : List ℕ → Part → Stream
rest_of text p = spelled (as_mark p.kind p.token) p.at 0 (drop p.at (take p.end text))

abbrev pub given_by : List ℕ → Result (Option Part) Fault → Stream
given_by text (Ok None) = begins (LineEnd ∷ []) ended
given_by text (Ok (Some p)) = led (lead p.kind) (rest_of text p)
given_by text (Err f) = broken f
