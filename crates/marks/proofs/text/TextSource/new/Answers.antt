use Rattle.marks.proofs.TextLaw.{text_law}
use Rattle.marks.proofs.text.TextSource.new.Goals as goal

pub returns-clause-law : goal.returns-clause-law
returns-clause-law c = text_law
