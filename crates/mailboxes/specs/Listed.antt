-- The entries of a list.
--     listed l    they, in their order
-- Assumes nothing.
use Rattle.std.specs.Prelude.{List}
use Rattle.store.specs.Stored.{stored}
use Rattle.addresses.specs.Mailboxes.{Entry}
use Rattle.mailboxes.specs.declared.list.MailboxList.{MailboxList}

abbrev pub listed : MailboxList → List Entry
listed l = stored l.store
