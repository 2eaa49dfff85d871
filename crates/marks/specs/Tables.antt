-- The token table: what a row of tokens over one text gives.
--     tokens_stream text i ts  what the tokens ts give, of which the first is the i-th
--     table_stream text ts     what a table of them gives
--     table_from text ts p i   the same, where p is left of the part that is open and the i-th token comes next
--     TableLaw                 a table of one token of text, over the whole, is the text source; and of two rows of tokens,
--                              one behind the other, the first gives its marks and then the second, unless the first breaks
-- Assumes nothing.
use Rattle.std.specs.Prelude.{◌≡◌, ℕ, ◌+◌, List, [], ◌∷◌, ◌++◌, length, drop}
use Rattle.marks.specs.declared.part.Part.{Part}
use Rattle.marks.specs.declared.token.Token.{Token}
use Rattle.marks.specs.Parts.{opened, rest_of, given_by}
use Rattle.marks.specs.Streams.{Stream, ended, follows}
use Rattle.marks.specs.Texts.{unless_long, text_stream}

abbrev pub token_stream : List ℕ → ℕ → Token → Stream
token_stream text i t = given_by text (opened (length text) t i)

unfoldable pub tokens_stream : List ℕ → ℕ → List Token → Stream
tokens_stream text i [] = ended
tokens_stream text i (t ∷ ts) = follows (token_stream text i t) (tokens_stream text (i + 1) ts)

abbrev pub table_stream : List ℕ → List Token → Stream
table_stream text ts = unless_long text (tokens_stream text 0 ts)

abbrev pub table_from : List ℕ → List Token → Part → ℕ → Stream
table_from text ts p i = unless_long text (follows (rest_of text p) (tokens_stream text i (drop i ts)))

pub record TableRead (text : List ℕ) : Type 0 where
  pub one_text : table_stream text (record { kind = 1; start = 0; length = length text } ∷ []) ≡ text_stream text
  pub joined : (i : ℕ) (ts us : List Token) → tokens_stream text i (ts ++ us) ≡ follows (tokens_stream text i ts) (tokens_stream text (i + length ts) us)

abbrev pub TableLaw : Type 0
TableLaw = (text : List ℕ) → TableRead text
