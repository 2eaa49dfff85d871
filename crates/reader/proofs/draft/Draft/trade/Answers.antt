use Rattle.std.proofs.Common.{ap, ◌∙◌}
use Rattle.store.specs.Stored.{stored}
use Rattle.reader.proofs.SoFars.{all_of}
use Rattle.reader.proofs.draft.Draft.trade.Goals as goal

pub returns-clause-given : goal.returns-clause-given
returns-clause-given c = ap stored c.swap.ensures.y_after ∙ all_of _ _ _ c.self.view_is
