-- Mailboxes and entries, and how much a list of them holds.
--     mailbox n a       the mailbox with the display name n, or none, and the address a, each a row of characters;
--                       an absent name, None, is another than the empty one, Some []
--     loose m           the mailbox m as an entry
--     group n ms        the group with the name n and the members ms
--     name_length n     the characters of a display name, none if it is absent
--     mailbox_length m  the characters of a mailbox's name and address
--     mailboxes l       the mailboxes of the list l, members included
--     groups l          its groups
--     characters l      the characters of all its display names, group names and addresses
--     mailboxes_in, groups_in, characters_in    the same of one entry
-- Assumes nothing.
use Rattle.std.specs.Prelude.{ℕ, ◌+◌, List, length, Some, None, sum_by, Option}

pub data Mailbox : Type 0 where
  mailbox : Option (List ℕ) → List ℕ → Mailbox

pub data Entry : Type 0 where
  loose : Mailbox → Entry
  group : List ℕ → List Mailbox → Entry

abbrev pub name_length : Option (List ℕ) → ℕ
name_length None = 0
name_length (Some n) = length n

abbrev pub mailbox_length : Mailbox → ℕ
mailbox_length (mailbox n a) = name_length n + length a

abbrev pub mailboxes_in : Entry → ℕ
mailboxes_in (loose m) = 1
mailboxes_in (group n ms) = length ms

abbrev pub groups_in : Entry → ℕ
groups_in (loose m) = 0
groups_in (group n ms) = 1

abbrev pub characters_in : Entry → ℕ
characters_in (loose m) = mailbox_length m
characters_in (group n ms) = length n + sum_by mailbox_length ms

abbrev pub mailboxes : List Entry → ℕ
mailboxes l = sum_by mailboxes_in l

abbrev pub groups : List Entry → ℕ
groups l = sum_by groups_in l

abbrev pub characters : List Entry → ℕ
characters l = sum_by characters_in l
