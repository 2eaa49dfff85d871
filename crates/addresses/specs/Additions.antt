-- Additions: the list that each leaves, or the fault. Names and addresses are given as bytes.
--     Addition           what is added: at the list's end a mailbox, or a group without members, or else a member, at the end
--                        of the group that is the entry i
--     or_ill r           the characters r, or the list's fault at the byte where none begins
--     text_of bs         the same of the bytes bs
--     name_of n          the same of a display name; one that is absent is not looked at
--     mailbox_of n a     the mailbox of a name and an address; the name is looked at first
--     mailbox_checks m k, group_checks n k          what is checked of a mailbox, or of a group's name, that makes the list k
--     with_mailbox, with_group, with_member         the lists that additions would leave, within the limits or above them
--     added l a          the list that the addition a leaves of l, or the fault of the first step that fails
-- Assumes nothing.
use Rattle.std.specs.Prelude.{ℕ, List, [], ◌∷◌, ◌++◌, Some, None, Ok, Err, Option, Result, nat_le, slice_set}
use Rattle.characters.specs.WhiteSpace.{among}
use Rattle.marks.specs.declared.fault.Fault.{Fault}
use Rattle.marks.specs.declared.fault.Ground.TheVariants.{AddressWithoutAt, LongName, LongAddress, FullList, IllFormedUtf8, UnwritableAddress}
use Rattle.addresses.specs.Signs.{at_sign}
use Rattle.addresses.specs.Mailboxes.{Mailbox, mailbox, Entry, loose, group, name_length}
use Rattle.addresses.specs.Limits.{short, within}
use Rattle.addresses.specs.Fine.{writable}
use Rattle.addresses.specs.WellFormed.{characters_of}
use Rattle.addresses.specs.Refusals.{list_fault, ◌>>=◌, Check, ◌else◌, judged}
use Rattle.addresses.specs.Places.{Group, group_at}

pub data Addition : Type 0 where
  new_mailbox : Option (List ℕ) → List ℕ → Addition
  new_group : List ℕ → Addition
  new_member : ℕ → Option (List ℕ) → List ℕ → Addition

-- ── bytes ──

abbrev pub or_ill : Result (List ℕ) ℕ → Result (List ℕ) Fault
or_ill (Ok cs) = Ok cs
or_ill (Err p) = Err (list_fault IllFormedUtf8 p)

abbrev pub text_of : List ℕ → Result (List ℕ) Fault
text_of bs = or_ill (characters_of bs)

abbrev pub name_of : Option (List ℕ) → Result (Option (List ℕ)) Fault
name_of None = Ok None
name_of (Some n) = do
  cs ← text_of n
  Ok (Some cs)

abbrev pub mailbox_of : Option (List ℕ) → List ℕ → Result Mailbox Fault
mailbox_of n a = do
  name ← name_of n
  address ← text_of a
  Ok (mailbox name address)

-- ── checks ──

abbrev pub mailbox_checks : Mailbox → List Entry → List Check
mailbox_checks (mailbox n a) k =
    nat_le (name_length n) 2000 else LongName
    ∷ short a else LongAddress
    ∷ among at_sign a else AddressWithoutAt
    ∷ writable n a else UnwritableAddress
    ∷ within k else FullList
    ∷ []

abbrev pub group_checks : List ℕ → List Entry → List Check
group_checks n k =
    short n else LongName
    ∷ within k else FullList
    ∷ []

-- ── what is left ──

abbrev pub with_mailbox : List Entry → Mailbox → List Entry
with_mailbox l m = l ++ loose m ∷ []

abbrev pub with_group : List Entry → List ℕ → List Entry
with_group l n = l ++ group n [] ∷ []

-- g is the group that is the entry i
abbrev pub with_member : List Entry → ℕ → Group → Mailbox → List Entry
with_member l i g m = slice_set l i (group g.name (g.members ++ m ∷ []))

abbrev pub added : List Entry → Addition → Result (List Entry) Fault
added l (new_mailbox n a) = do
  m ← mailbox_of n a
  let k = with_mailbox l m in judged (mailbox_checks m k) k
added l (new_group n) = do
  name ← text_of n
  let k = with_group l name in judged (group_checks name k) k
added l (new_member i n a) = do
  g ← group_at l i
  m ← mailbox_of n a
  let k = with_member l i g m in judged (mailbox_checks m k) k
