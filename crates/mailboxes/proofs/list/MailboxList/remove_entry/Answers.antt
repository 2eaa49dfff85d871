use Rattle.std.proofs.Common.{None}
use Rattle.addresses.specs.Events.{a_removal}
use Rattle.store.specs.Stored.{stored}
use Rattle.mailboxes.proofs.Keeping.{event_fine}
use Rattle.mailboxes.proofs.Parting.{entry_leaves}
use Rattle.mailboxes.proofs.list.MailboxList.remove_entry.Goals as goal

pub invariant_of-self : goal.invariant_of-self
invariant_of-self c =
    let l = stored c.args.self.now.store in
    let k = stored c.remove_entry.new.self in
    let i = c.args.entry in
    record { proper = event_fine l (a_removal i None) k c.args.self.now.proper tt (entry_leaves l k i c.remove_entry.result c.remove_entry.ensures.there c.remove_entry.ensures.after) }
