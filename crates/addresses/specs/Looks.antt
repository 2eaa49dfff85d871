-- Looks: what is seen of a part of a list.
--     Seen           of a mailbox its name, if it has one, and its address; of a group its name and its number of members
--     mailbox_seen, entry_seen    what is seen of a mailbox and of an entry
--     look l i o     what is seen of the entry i of the list l, or, where a member is named, of that member of it, or the fault
-- Assumes nothing.
use Rattle.std.specs.Prelude.{ℕ, List, length, Some, None, Ok, Option, Result}
use Rattle.marks.specs.declared.fault.Fault.{Fault}
use Rattle.addresses.specs.Mailboxes.{Mailbox, mailbox, Entry, loose, group}
use Rattle.addresses.specs.Refusals.{◌>>=◌}
use Rattle.addresses.specs.Places.{entry_at, group_at, member_at}

pub data Seen : Type 0 where
  seen_mailbox : Option (List ℕ) → List ℕ → Seen
  seen_group : List ℕ → ℕ → Seen

abbrev pub mailbox_seen : Mailbox → Seen
mailbox_seen (mailbox n a) = seen_mailbox n a

abbrev pub entry_seen : Entry → Seen
entry_seen (loose m) = mailbox_seen m
entry_seen (group n ms) = seen_group n (length ms)

abbrev pub look : List Entry → ℕ → Option ℕ → Result Seen Fault
look l i None = do
  e ← entry_at l i
  Ok (entry_seen e)
look l i (Some j) = do
  g ← group_at l i
  m ← member_at g j
  Ok (mailbox_seen m)
