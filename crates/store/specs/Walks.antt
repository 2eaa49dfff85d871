-- What a walk through a list shows.
--     entry_walked e    of an entry: a loose mailbox, or a group and then its members
--     walked l          of the list l, from its first entry to its last
--     ahead w           what the walk w has still to show
-- Assumes nothing.
use Rattle.std.specs.Prelude.{List, [], ◌∷◌, ◌++◌, map, length}
use Rattle.std.specs.List.{flat_map}
use Rattle.addresses.specs.Mailboxes.{Entry, loose, group}
use Rattle.store.specs.Layout.{boxes, opened, dealt}
use Rattle.addresses.specs.Looks.{Seen, seen_group, mailbox_seen}
use Rattle.store.specs.declared.store.walk.Walk.{Walk}

abbrev pub entry_walked : Entry → List Seen
entry_walked (loose m) = mailbox_seen m ∷ []
entry_walked (group n ms) = seen_group n (length ms) ∷ map mailbox_seen ms

abbrev pub walked : List Entry → List Seen
walked l = flat_map entry_walked l

-- of an open group only its members are ahead
abbrev pub left_of : List Entry → List Seen
left_of [] = []
left_of (e ∷ l) = map mailbox_seen (boxes e) ++ walked l

abbrev pub ahead : Walk → List Seen
ahead w = left_of (dealt (opened w.members w.entries.now) w.mailboxes.now w.chars.now)
