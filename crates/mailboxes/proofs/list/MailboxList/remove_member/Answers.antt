use Rattle.std.proofs.Common.{Some}
use Rattle.addresses.specs.Events.{a_removal}
use Rattle.store.specs.Stored.{stored}
use Rattle.mailboxes.proofs.Keeping.{event_fine}
use Rattle.mailboxes.proofs.Parting.{member_leaves}
use Rattle.mailboxes.proofs.list.MailboxList.remove_member.Goals as goal

pub invariant_of-self : goal.invariant_of-self
invariant_of-self c =
    let l = stored c.args.self.now.store in
    let k = stored c.remove_member.new.self in
    let i = c.args.entry in
    let j = c.args.member in
    let left = member_leaves l k i j c.remove_member.result c.in_ok-find_group.ensures c.remove_member.ensures.there c.remove_member.ensures.after in
    record { proper = event_fine l (a_removal i (Some j)) k c.args.self.now.proper tt left }
