-- The limits of a list and of what is in hand while one is read.
--     short cs     the row cs has at most 2,000 characters
--     Within l     the list l has at most 256 mailboxes, 64 groups and 8,192 characters
--     within l     the same as a test
--     most_marks   the marks that one read may take, 60,000
--     deepest      the depth that comments may have, 100
-- Assumes nothing.
use Rattle.std.specs.Prelude.{ℕ, ◌≤◌, Bool, ◌&&◌, List, length, nat_le}
use Rattle.addresses.specs.Mailboxes.{Entry, mailboxes, groups, characters}

abbrev pub short : List ℕ → Bool
short cs = nat_le (length cs) 2000

abbrev pub Within : List Entry → Type 0
Within l = (mailboxes l ≤ 256) × (groups l ≤ 64) × (characters l ≤ 8192)

unfoldable pub within : List Entry → Bool
within l = nat_le (mailboxes l) 256 && (nat_le (groups l) 64 && nat_le (characters l) 8192)

abbrev pub most_marks : ℕ
most_marks = 60000

abbrev pub deepest : ℕ
deepest = 100
