-- Mailboxes that are lent to a call.
--     lent m    the mailbox whose rows m lends
-- Assumes nothing.
use Rattle.std.specs.Prelude.{ℕ}
use Rattle.std.specs.Option.{option_map}
use Rattle.addresses.specs.Mailboxes.{Mailbox, mailbox}
use Rattle.addresses.specs.declared.name_addr.NameAddr.{NameAddr}

abbrev pub lent : NameAddr ℕ → Mailbox
lent m = mailbox (option_map (λ x. x.now) m.name) m.addr.now
