use Rattle.std.proofs.Common.{sym, ap, ◌∙◌}
use Rattle.addresses.specs.Events.{a_read}
use Rattle.addresses.specs.Outcomes.{left_of}
use Rattle.store.specs.Stored.{stored}
use Rattle.mailboxes.proofs.Keeping.{event_fine}
use Rattle.mailboxes.proofs.list.MailboxList.read.Goals as goal

pub invariant_of-self-2 : goal.invariant_of-self-2
invariant_of-self-2 g c =
    let list = stored c.args.self.now.store in
    let source = c.args.source.now in
    let answer = c.in_ok-read.ensures.answer in
    record {
      proper = event_fine list (a_read (g.S.Source.waiting source) (g.S.Source.close source)) (stored c.trade.new.other) c.args.self.now.proper (g.S.Source.proper source)
          (c.trade.ensures.given ∙ sym (ap (left_of list) answer));
    }
