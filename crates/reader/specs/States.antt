-- Which states have what in hand.
--     outside_comments s    s is no state inside a comment
--     has_name s            a name is in hand, and may grow
--     has_addr s            an address is
-- Assumes nothing.
use Rattle.std.specs.Prelude.{Bool, true, false}
use Rattle.reader.specs.declared.state.State.{State}
use Rattle.reader.specs.declared.state.State.TheVariants.{QuotedName, AfterQuotedName, BracketedAddr, Unquoted, NameWithEncodedWord, Comment, CommentEscapedChar}

abbrev pub outside_comments : State → Bool
outside_comments Comment = false
outside_comments CommentEscapedChar = false
outside_comments s = true

abbrev pub has_name : State → Bool
has_name QuotedName = true
has_name AfterQuotedName = true
has_name s = false

abbrev pub has_addr : State → Bool
has_addr (BracketedAddr b) = true
has_addr Unquoted = true
has_addr NameWithEncodedWord = true
has_addr s = false
