-- The list that a store holds.
--     stored s    its entries
-- Assumes nothing.
use Rattle.std.specs.Prelude.{List}
use Rattle.addresses.specs.Mailboxes.{Entry}
use Rattle.store.specs.Layout.{dealt}
use Rattle.store.specs.declared.store.Store.{Store}

abbrev pub stored : Store → List Entry
stored s = dealt s.entries s.rows.mailboxes s.rows.chars
