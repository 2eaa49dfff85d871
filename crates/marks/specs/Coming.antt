-- What is still to come of a bottom source, by what it holds. Assumes nothing.
use Rattle.marks.specs.declared.table.TokenTable.{TokenTable}
use Rattle.marks.specs.declared.text.TextSource.{TextSource}
use Rattle.marks.specs.Streams.{Stream}
use Rattle.marks.specs.Tables.{table_from}
use Rattle.marks.specs.Texts.{text_from}

abbrev pub text_coming : TextSource → Stream
text_coming s = text_from s.text.now s.at

abbrev pub table_coming : TokenTable → Stream
table_coming s = table_from s.text.now s.tokens.now s.part s.index
