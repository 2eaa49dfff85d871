use Rattle.std.proofs.Common.{ap}
use Rattle.addresses.specs.Steps.{outside}
use Rattle.reader.proofs.SoFars.{all_of}
use Rattle.reader.proofs.draft.Draft.close_group.Goals as goal

pub returns : goal.returns
returns c = ap outside (all_of _ _ _ c.self.view_is)
