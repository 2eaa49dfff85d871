-- Lists with a part more or less.
--     is_group e         the entry e is a group
--     with_member e m, without_member e j    e with the mailbox m as its last member and without its member j, if it is a group
--     ends_in_group l    the last entry of l is a group
--     last_joined l m    l with m as the last member of its last entry, if that is a group
--     has_group l i      the entry i of l is there, and a group
--     member_at l i j    the member j of the entry i of l, if that is a group that has it
--     joined_at l i m    l with m as the last member of its entry i, if that is a group
--     parted_at l i j    l without the member j of its entry i
-- Places are counted from 0 on. Assumes nothing.
use Rattle.std.specs.Prelude.{ℕ, Bool, true, false, List, [], ◌∷◌, ◌++◌, Some, None, Option, slice_set}
use Rattle.std.specs.Option.{option_map}
use Rattle.std.specs.List.{remove, slice_get}
use Rattle.addresses.specs.Mailboxes.{Mailbox, Entry, loose, group}

-- ── one entry ──

abbrev pub is_group : Entry → Bool
is_group (loose m) = false
is_group (group n ms) = true

abbrev pub with_member : Entry → Mailbox → Entry
with_member (loose b) m = loose b
with_member (group n ms) m = group n (ms ++ m ∷ [])

abbrev pub without_member : Entry → ℕ → Entry
without_member (loose m) j = loose m
without_member (group n ms) j = group n (remove ms j)

-- ── the last entry ──

abbrev pub ends_in_group : List Entry → Bool
ends_in_group [] = false
ends_in_group (e ∷ []) = is_group e
ends_in_group (e ∷ f ∷ l) = ends_in_group (f ∷ l)

abbrev pub last_joined : List Entry → Mailbox → List Entry
last_joined [] m = []
last_joined (e ∷ []) m = with_member e m ∷ []
last_joined (e ∷ f ∷ l) m = e ∷ last_joined (f ∷ l) m

-- ── any entry, by its place ──

abbrev pub some_group : Option Entry → Bool
some_group None = false
some_group (Some e) = is_group e

abbrev pub some_member : Option Entry → ℕ → Option Mailbox
some_member None j = None
some_member (Some (loose m)) j = None
some_member (Some (group n ms)) j = slice_get ms j

abbrev pub has_group : List Entry → ℕ → Bool
has_group l i = some_group (slice_get l i)

abbrev pub member_at : List Entry → ℕ → ℕ → Option Mailbox
member_at l i j = some_member (slice_get l i) j

-- l with e as its entry i, if there is an e
abbrev pub replaced : List Entry → ℕ → Option Entry → List Entry
replaced l i None = l
replaced l i (Some e) = slice_set l i e

abbrev pub joined_at : List Entry → ℕ → Mailbox → List Entry
joined_at l i m = replaced l i (option_map (λ e. with_member e m) (slice_get l i))

abbrev pub parted_at : List Entry → ℕ → ℕ → List Entry
parted_at l i j = replaced l i (option_map (λ e. without_member e j) (slice_get l i))
