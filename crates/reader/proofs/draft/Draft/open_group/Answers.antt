use Rattle.std.proofs.Common.{ap}
use Rattle.reader.specs.Drafts.{is_open}
use Rattle.reader.proofs.SoFars.{group_opened}
use Rattle.reader.proofs.draft.Draft.open_group.Goals as goal

pub invariant_of-self-2 : goal.invariant_of-self-2
invariant_of-self-2 c = ap is_open (group_opened _ _ _ c.args.name.now _ c.self.view_is c.in_ok-push_group.ensures.after)

pub returns-clause-after : goal.returns-clause-after
returns-clause-after c = group_opened _ _ _ c.args.name.now _ c.self.view_is c.in_ok-push_group.ensures.after
