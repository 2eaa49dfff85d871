use Rattle.std.proofs.Common.{Ok, sym, ap, ◌∙◌}
use Rattle.addresses.specs.Additions.{added, new_group, with_group}
use Rattle.addresses.specs.Events.{an_addition}
use Rattle.additions.proofs.Joining.{group_accepted}
use Rattle.store.specs.Stored.{stored}
use Rattle.mailboxes.proofs.Fitting.{fitted_leaves}
use Rattle.mailboxes.proofs.Keeping.{event_fine}
use Rattle.mailboxes.proofs.list.MailboxList.add_group.Goals as goal

pub invariant_of-self-2 : goal.invariant_of-self-2
invariant_of-self-2 c =
    let l = stored c.args.self.now.store in
    let k = stored c.push_group.new.self in
    let n = c.args.name.now in
    let name = c.group_name.result.now in
    let same = group_accepted l n name (sym c.in_ok-take_group.ensures.taken ∙ ap Ok (sym c.group_name.ensures)) in
    let left = fitted_leaves l (with_group l name) k (added l (new_group n)) c.push_group.result same c.push_group.ensures.fits c.push_group.ensures.after in
    record { proper = event_fine l (an_addition (new_group n)) k c.args.self.now.proper tt left }
