use Rattle.std.proofs.Common.{◌≡◌, ℕ, ◌<◌, leb, List, length, sym, ap, ◌∙◌, arith}
use Rattle.std.proofs.lemmas.Bool.{cond-false, lt-leb}
use Rattle.marks.specs.declared.part.Part.{Part}
use Rattle.marks.specs.declared.part.PartKind.TheVariants.{Text}
use Rattle.marks.specs.Faults.{long_text}
use Rattle.marks.specs.Streams.{Stream, broken, follows}
use Rattle.marks.specs.Tables.{tokens_stream, table_from}
use Rattle.marks.specs.Texts.{unless_long}
use Rattle.marks.proofs.TableLaw.{table_law}
use Rattle.marks.proofs.TableSteps.{read_out}
use Rattle.marks.proofs.table.TokenTable.new.Goals as goal
use Rattle.marks.proofs.table.TokenTable.new.Goals.{then-text-gt-MAX_TEXT, else-text-gt-MAX_TEXT}

abbrev none : Part
none = record { kind = Text; token = 0; at = 0; end = 0 }

-- of a text that is too long nothing comes, whatever tokens there are
unread : (text : List ℕ) (s : Stream) → 60000 < length text → unless_long text s ≡ broken long_text
unread text s long = cond-false (leb (length text) 60000) s (broken long_text) (lt-leb (length text) 60000 long)

pub returns-clause-stream : goal.returns-clause-stream
returns-clause-stream c =
    let text = c.args.text.now in
    elim c.if-text-gt-MAX_TEXT.branch [
      | then-text-gt-MAX_TEXT w ↦ unread text _ w.if-text-gt-MAX_TEXT.true ∙ sym (unread text _ w.if-text-gt-MAX_TEXT.true)
      | else-text-gt-MAX_TEXT w ↦ ap (λ b. table_from text b.now none 0) w.tokens-is
          ∙ ap (λ s. unless_long text (follows s (tokens_stream text 0 c.args.tokens.now))) (read_out text none (omega arith))
    ]

pub returns-clause-law : goal.returns-clause-law
returns-clause-law c = table_law
