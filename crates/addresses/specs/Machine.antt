-- The reader's states and what a mark does in each: the table of the states, without the limits.
--     State             a state, with what it has in hand
--     Act               what a mark does
--     s ⇒ a             at the sign s, a is done
--     pick c rows d     what is done at the character c: by the first row of its sign, and d where no row has it
--     deepens s d       a comment begins at the depth d of a comment that began in s
--     rises s d         a comment ends there; behind the outermost, all in hand is as when it began
--     signs s           the rows of the state s
--     other s c         what a Char c does in s that is none of those signs
--     at_blank, at_word, at_word_char    what a Blank, a Word and a word character do
--     act s m           what the mark m does in the state s
-- Assumes nothing.
use Rattle.std.specs.Prelude.{ℕ, ◌+◌, ◌-◌, cond, not, ◌&&◌, List, [], ◌∷◌, ◌++◌, Some, None, Option, ◌==◌, nat_le, nat_lt}
use Rattle.characters.specs.WhiteSpace.{among, white}
use Rattle.marks.specs.declared.mark.Mark.{Mark}
use Rattle.marks.specs.declared.mark.Mark.TheVariants.{Char, Blank, LineEnd, Word, WordChar}
use Rattle.marks.specs.declared.fault.Ground.{Ground}
use Rattle.marks.specs.declared.fault.Ground.TheVariants.{WordAfterBackslash, WordInBrackets, WordAfterBrackets, CharAfterBrackets, DeepComment, RawLineEnd, StrayWordChar}
use Rattle.addresses.specs.Signs.{quote, open_paren, close_paren, comma, colon, semicolon, open_bracket, close_bracket, at_sign, backslash}
use Rattle.addresses.specs.Mailboxes.{Mailbox, mailbox}
use Rattle.addresses.specs.Limits.{deepest}
use Rattle.addresses.specs.Trim.{trim}

pub data State : Type 0 where
  Initial : State
  -- the name so far
  QuotedName : List ℕ → State
  EscapedChar : List ℕ → State
  -- the name, and the blanks that wait behind it
  AfterQuotedName : List ℕ → List ℕ → State
  -- the display name, if there is one, and the address so far
  BracketedAddr : Option (List ℕ) → List ℕ → State
  AfterBracketedAddr : State
  -- the address so far, which may yet turn out to be a name
  Unquoted : List ℕ → State
  NameWithEncodedWord : List ℕ → State
  -- the state that the comment began in, and the depth
  Comment : State → ℕ → State
  CommentEscapedChar : State → ℕ → State

pub data Act : Type 0 where
  -- goes to a state
  to : State → Act
  -- finishes a mailbox, and goes to a state
  finish : Mailbox → State → Act
  -- finishes a mailbox, closes the group if one is open, and goes to Initial
  finish_and_close : Mailbox → Act
  -- opens a group, and goes to Initial; inside a group it is refused
  open_group : List ℕ → Act
  -- closes the group, and goes to Initial; outside a group it is refused
  close_group : Act
  -- closes the group if one is open, and goes to Initial
  close_if_open : Act
  refuse : Ground → Act

infixr 68 ◌⇒◌
pub data Case : Type 0 where
  ◌⇒◌ : ℕ → Act → Case

abbrev pub pick : ℕ → List Case → Act → Act
pick c [] d = d
pick c ((k ⇒ a) ∷ rows) d = cond (c == k) a (pick c rows d)

-- ── a Char ──

abbrev pub deepens : State → ℕ → Act
deepens s d = cond (nat_lt d deepest) (to (Comment s (d + 1))) (refuse DeepComment)

abbrev pub rises : State → ℕ → Act
rises s d = cond (nat_le d 1) (to s) (to (Comment s (d - 1)))

abbrev pub signs : State → List Case
signs Initial =
    comma ⇒ to Initial
    ∷ quote ⇒ to (QuotedName [])
    ∷ open_bracket ⇒ to (BracketedAddr None [])
    ∷ semicolon ⇒ close_group
    ∷ open_paren ⇒ to (Comment Initial 1)
    ∷ []
signs (QuotedName n) =
    backslash ⇒ to (EscapedChar n)
    ∷ quote ⇒ to (AfterQuotedName n [])
    ∷ []
signs (EscapedChar n) = []
signs (AfterQuotedName n w) =
    open_bracket ⇒ to (BracketedAddr (Some n) [])
    ∷ colon ⇒ open_group n
    ∷ open_paren ⇒ to (Comment (AfterQuotedName n w) 1)
    ∷ quote ⇒ to (QuotedName (n ++ w))
    ∷ []
signs (BracketedAddr n a) = close_bracket ⇒ finish (mailbox n a) AfterBracketedAddr ∷ []
signs AfterBracketedAddr =
    comma ⇒ to Initial
    ∷ semicolon ⇒ close_if_open
    ∷ open_paren ⇒ to (Comment AfterBracketedAddr 1)
    ∷ []
signs (Unquoted a) =
    open_bracket ⇒ to (BracketedAddr (Some (trim a)) [])
    ∷ comma ⇒ finish (mailbox None (trim a)) Initial
    ∷ semicolon ⇒ finish_and_close (mailbox None (trim a))
    ∷ open_paren ⇒ to (Comment (Unquoted a) 1)
    ∷ []
signs (NameWithEncodedWord a) =
    open_bracket ⇒ to (BracketedAddr (Some (trim a)) [])
    ∷ colon ⇒ open_group (trim a)
    ∷ open_paren ⇒ to (Comment (NameWithEncodedWord a) 1)
    ∷ []
signs (Comment s d) =
    open_paren ⇒ deepens s d
    ∷ close_paren ⇒ rises s d
    ∷ backslash ⇒ to (CommentEscapedChar s d)
    ∷ []
signs (CommentEscapedChar s d) = []

abbrev pub other : State → ℕ → Act
other Initial c = cond (white c) (to Initial) (to (Unquoted (c ∷ [])))
other (QuotedName n) c = to (QuotedName (n ++ c ∷ []))
other (EscapedChar n) c = to (QuotedName (n ++ c ∷ []))
other (AfterQuotedName n w) c = cond (white c) (to (AfterQuotedName n (w ++ c ∷ []))) (to (AfterQuotedName ((n ++ w) ++ c ∷ []) []))
other (BracketedAddr n a) c = to (BracketedAddr n (a ++ c ∷ []))
other AfterBracketedAddr c = cond (white c) (to AfterBracketedAddr) (refuse CharAfterBrackets)
-- only an address that has no @ yet can be the name of a group
other (Unquoted a) c = cond (c == colon && not (among at_sign a)) (open_group (trim a)) (to (Unquoted (a ++ c ∷ [])))
other (NameWithEncodedWord a) c = to (NameWithEncodedWord (a ++ c ∷ []))
other (Comment s d) c = to (Comment s d)
other (CommentEscapedChar s d) c = to (Comment s d)

-- ── the other marks ──

abbrev pub at_blank : State → ℕ → Act
at_blank Initial c = to Initial
at_blank (QuotedName n) c = to (QuotedName (n ++ c ∷ []))
at_blank (EscapedChar n) c = to (QuotedName (n ++ c ∷ []))
at_blank (AfterQuotedName n w) c = to (AfterQuotedName n (w ++ c ∷ []))
at_blank (BracketedAddr n a) c = to (BracketedAddr n (a ++ c ∷ []))
at_blank AfterBracketedAddr c = to AfterBracketedAddr
at_blank (Unquoted a) c = to (Unquoted (a ++ c ∷ []))
at_blank (NameWithEncodedWord a) c = to (NameWithEncodedWord (a ++ c ∷ []))
at_blank (Comment s d) c = to (Comment s d)
at_blank (CommentEscapedChar s d) c = to (Comment s d)

abbrev pub at_word : State → Act
at_word Initial = to (NameWithEncodedWord [])
at_word (QuotedName n) = to (QuotedName n)
at_word (EscapedChar n) = refuse WordAfterBackslash
at_word (AfterQuotedName n w) = to (AfterQuotedName (n ++ w) [])
at_word (BracketedAddr n a) = refuse WordInBrackets
at_word AfterBracketedAddr = refuse WordAfterBrackets
at_word (Unquoted a) = to (NameWithEncodedWord a)
at_word (NameWithEncodedWord a) = to (NameWithEncodedWord a)
at_word (Comment s d) = to (Comment s d)
at_word (CommentEscapedChar s d) = to (Comment s d)

abbrev pub at_word_char : State → ℕ → Act
at_word_char Initial c = refuse StrayWordChar
at_word_char (QuotedName n) c = to (QuotedName (n ++ c ∷ []))
at_word_char (EscapedChar n) c = refuse StrayWordChar
-- blanks that wait go on waiting
at_word_char (AfterQuotedName n w) c = to (AfterQuotedName (n ++ c ∷ []) w)
at_word_char (BracketedAddr n a) c = refuse StrayWordChar
at_word_char AfterBracketedAddr c = refuse StrayWordChar
at_word_char (Unquoted a) c = refuse StrayWordChar
at_word_char (NameWithEncodedWord a) c = to (NameWithEncodedWord (a ++ c ∷ []))
at_word_char (Comment s d) c = to (Comment s d)
at_word_char (CommentEscapedChar s d) c = refuse StrayWordChar

abbrev pub act : State → Mark → Act
act s (Char c) = pick c (signs s) (other s c)
act s (Blank c) = at_blank s c
act s LineEnd = refuse RawLineEnd
act s Word = at_word s
act s (WordChar c) = at_word_char s c
