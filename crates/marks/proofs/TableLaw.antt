-- The laws of a token table as a whole. Assumes nothing.
use Rattle.std.proofs.Common.{◌≡◌, ℕ, ◌+◌, leb, List, [], ◌∷◌, ◌++◌, length, Ok, Err, sym, ap, ◌∙◌, add-zero, arith, take_all}
use Rattle.std.proofs.lemmas.Bool.{cond-true, le-leb}
use Rattle.marks.specs.declared.part.Part.{Part}
use Rattle.marks.specs.declared.part.PartKind.TheVariants.{Text}
use Rattle.marks.specs.declared.token.Token.{Token}
use Rattle.marks.specs.Faults.{part_outside}
use Rattle.marks.specs.Parts.{stretched, given_by}
use Rattle.marks.specs.Spelling.{spelled}
use Rattle.marks.specs.Streams.{follows, follows_assoc, follows_ended}
use Rattle.marks.specs.Tables.{token_stream, tokens_stream, table_stream, TableLaw}
use Rattle.marks.specs.Texts.{as_char, unless_long, text_stream}

abbrev all_of : List ℕ → Token
all_of text = record { kind = 1; start = 0; length = length text }

abbrev whole : List ℕ → Part
whole text = record { kind = Text; token = 0; at = 0; end = 0 + length text }

token_of_all : (text : List ℕ) → token_stream text 0 (all_of text) ≡ spelled as_char 0 0 text
token_of_all text =
    let within = cond-true (leb (0 + length text) (length text)) (Ok (whole text)) (Err (part_outside 0)) (le-leb (0 + length text) (length text) (omega arith)) in
    ap (λ r. given_by text (stretched r)) within
    ∙ ap (spelled as_char 0 0) (take_all (0 + length text) text (omega arith))

joined : (text : List ℕ) (i : ℕ) (ts us : List Token) → tokens_stream text i (ts ++ us) ≡ follows (tokens_stream text i ts) (tokens_stream text (i + length ts) us)
unfolding tokens_stream
joined text i [] us = ap (λ k. tokens_stream text k us) (sym (add-zero i))
joined text i (t ∷ ts) us =
    let k : i + 1 + length ts ≡ i + length (t ∷ ts) = omega arith in
    ap (follows (token_stream text i t)) (joined text (i + 1) ts us ∙ ap (λ j. follows (tokens_stream text (i + 1) ts) (tokens_stream text j us)) k)
    ∙ sym (follows_assoc (token_stream text i t) (tokens_stream text (i + 1) ts) (tokens_stream text (i + length (t ∷ ts)) us))

one_text : (text : List ℕ) → table_stream text (all_of text ∷ []) ≡ text_stream text
unfolding tokens_stream
one_text text = ap (unless_long text) (follows_ended (token_stream text 0 (all_of text)) ∙ token_of_all text)

pub table_law : TableLaw
table_law text = record { one_text = one_text text; joined = joined text }
