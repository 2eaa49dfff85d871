-- What a store shows of a list, in the words that the model has for what is seen.
--     look_at l i o     what is seen of the entry i of the list l, or, where a member is named, of that member of it
--     seen v            what a look shows
--     kind_of e         whether the entry e is a mailbox or a group
--     kind_is r         the same of an entry by its record
-- Assumes nothing.
use Rattle.std.specs.Prelude.{ℕ, List, Some, None, Option}
use Rattle.std.specs.Option.{option_map}
use Rattle.std.specs.List.{slice_get}
use Rattle.addresses.specs.Lent.{lent}
use Rattle.addresses.specs.Looks.{Seen, seen_group, mailbox_seen, entry_seen}
use Rattle.addresses.specs.Mailboxes.{Entry, loose, group}
use Rattle.store.specs.Edits.{member_at}
use Rattle.store.specs.declared.look.EntryKind.{EntryKind}
use Rattle.store.specs.declared.look.EntryKind.TheVariants as kind
use Rattle.store.specs.declared.records.EntryRecord.{EntryRecord}
use Rattle.store.specs.declared.records.EntryRecord.TheVariants as entry_record
use Rattle.store.specs.declared.look.Look.{Look}
use Rattle.store.specs.declared.look.Look.TheVariants as show

abbrev pub look_at : List Entry → ℕ → Option ℕ → Option Seen
look_at l i None = option_map entry_seen (slice_get l i)
look_at l i (Some j) = option_map mailbox_seen (member_at l i j)

abbrev pub seen : Look → Seen
seen (show.Mailbox m) = mailbox_seen (lent m)
seen (show.Group n k) = seen_group n.now k

abbrev pub kind_of : Entry → EntryKind
kind_of (loose m) = kind.Mailbox
kind_of (group n ms) = kind.Group

abbrev pub kind_is : EntryRecord → EntryKind
kind_is entry_record.Loose = kind.Mailbox
kind_is (entry_record.Group n k) = kind.Group
