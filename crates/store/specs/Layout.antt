-- How the records and the characters of a store stand for the entries of a list. Only lengths are kept.
--     name_row n, mailbox_row m    the characters of a display name, none if it is absent, and of a mailbox
--     title e, boxes e             an entry's own name, none if it is no group, and its mailboxes
--     entry_row e                  the characters of an entry
--     all_boxes l, row l           the mailboxes and the characters of the list l, in order
--     mailbox_record m, entry_record e    the records that stand for a mailbox and for an entry
--     name_size, record_size              the characters that a record of a name or of a mailbox asks for
--     title_size, box_count        the characters of its own name and the mailboxes that a record of an entry asks for
--     group_count, one_more, one_less    1 if a record is a group's, and the record of a group with a member more or less
--     mailbox_in r cs              the mailbox of the record r whose characters come first in cs
--     mailboxes_in, entry_in       the same of a row of mailboxes, and of an entry with its mailboxes
--     dealt rs bs cs               the entries of the records rs and bs, with the characters cs dealt out in order
--     Laid rs bs cs                the records and the characters are just those of the entries that they are dealt out as
--     Counted rs bs cs n           n of these entries are groups
--     keeps m g c                  so many mailboxes, groups and characters keep the limits of a list; Small says the same
-- Assumes nothing.
use Rattle.std.specs.Prelude.{◌≡◌, ℕ, ◌+◌, ◌-◌, ◌≤◌, Bool, ◌&&◌, List, [], ◌∷◌, ◌++◌, map, length, take, drop, Some, None, sum_by, Option, nat_le}
use Rattle.std.specs.Option.{option_map, unwrap_or}
use Rattle.std.specs.List.{flat_map}
use Rattle.addresses.specs.Mailboxes.{Mailbox, mailbox, Entry, loose, group, groups}
use Rattle.store.specs.declared.records.MailboxRecord.{MailboxRecord}
use Rattle.store.specs.declared.records.EntryRecord.{EntryRecord}
use Rattle.store.specs.declared.records.EntryRecord.TheVariants.{Loose, Group}

-- ── entries as rows ──

abbrev pub name_row : Option (List ℕ) → List ℕ
name_row None = []
name_row (Some n) = n

abbrev pub mailbox_row : Mailbox → List ℕ
mailbox_row (mailbox n a) = name_row n ++ a

abbrev pub title : Entry → List ℕ
title (loose m) = []
title (group n ms) = n

abbrev pub boxes : Entry → List Mailbox
boxes (loose m) = m ∷ []
boxes (group n ms) = ms

abbrev pub entry_row : Entry → List ℕ
entry_row e = title e ++ flat_map mailbox_row (boxes e)

abbrev pub all_boxes : List Entry → List Mailbox
all_boxes l = flat_map boxes l

abbrev pub row : List Entry → List ℕ
row l = flat_map entry_row l

-- ── records ──

abbrev pub mailbox_record : Mailbox → MailboxRecord
mailbox_record (mailbox n a) = record { name = option_map length n; addr = length a }

abbrev pub entry_record : Entry → EntryRecord
entry_record (loose m) = Loose
entry_record (group n ms) = Group (length n) (length ms)

abbrev pub name_size : Option ℕ → ℕ
name_size n = unwrap_or n 0

abbrev pub record_size : MailboxRecord → ℕ
record_size r = name_size r.name + r.addr

abbrev pub title_size : EntryRecord → ℕ
title_size Loose = 0
title_size (Group n k) = n

abbrev pub box_count : EntryRecord → ℕ
box_count Loose = 1
box_count (Group n k) = k

abbrev pub group_count : EntryRecord → ℕ
group_count Loose = 0
group_count (Group n k) = 1

abbrev pub one_more : EntryRecord → EntryRecord
one_more Loose = Loose
one_more (Group n k) = Group n (k + 1)

abbrev pub one_less : EntryRecord → EntryRecord
one_less Loose = Loose
one_less (Group n k) = Group n (k - 1)

-- the length of the name and the number of members of a group's record
abbrev pub group_of : Option EntryRecord → Option (ℕ × ℕ)
group_of None = None
group_of (Some Loose) = None
group_of (Some (Group n k)) = Some (n, k)

-- the records of what is left of a group, k members, and of the entries behind it
abbrev pub opened : ℕ → List EntryRecord → List EntryRecord
opened k rs = Group 0 k ∷ rs

-- ── back to entries ──

abbrev pub name_in : Option ℕ → List ℕ → Option (List ℕ)
name_in None cs = None
name_in (Some n) cs = Some (take n cs)

abbrev pub mailbox_in : MailboxRecord → List ℕ → Mailbox
mailbox_in r cs = mailbox (name_in r.name cs) (take r.addr (drop (name_size r.name) cs))

abbrev pub mailboxes_in : List MailboxRecord → List ℕ → List Mailbox
mailboxes_in [] cs = []
mailboxes_in (r ∷ rs) cs = mailbox_in r cs ∷ mailboxes_in rs (drop (record_size r) cs)

-- a loose mailbox has one record; where it is missing, which never is, any entry does
abbrev pub entry_in : EntryRecord → List MailboxRecord → List ℕ → Entry
entry_in Loose [] cs = loose (mailbox None [])
entry_in Loose (b ∷ bs) cs = loose (mailbox_in b cs)
entry_in (Group n k) bs cs = group (take n cs) (mailboxes_in bs (drop n cs))

unfoldable pub dealt : List EntryRecord → List MailboxRecord → List ℕ → List Entry
dealt [] bs cs = []
dealt (r ∷ rs) bs cs =
    let own = take (box_count r) bs in
    entry_in r own cs ∷ dealt rs (drop (box_count r) bs) (drop (title_size r + sum_by record_size own) cs)

-- ── what a store keeps ──

abbrev pub Laid : List EntryRecord → List MailboxRecord → List ℕ → Type 0
Laid rs bs cs =
    (rs ≡ map entry_record (dealt rs bs cs)) × (bs ≡ map mailbox_record (all_boxes (dealt rs bs cs))) × (cs ≡ row (dealt rs bs cs))

abbrev pub Counted : List EntryRecord → List MailboxRecord → List ℕ → ℕ → Type 0
Counted rs bs cs n = n ≡ groups (dealt rs bs cs)

abbrev pub keeps : ℕ → ℕ → ℕ → Bool
keeps m g c = nat_le m 256 && (nat_le g 64 && nat_le c 8192)

abbrev pub Small : ℕ → ℕ → ℕ → Type 0
Small m g c = (m ≤ 256) × (g ≤ 64) × (c ≤ 8192)
