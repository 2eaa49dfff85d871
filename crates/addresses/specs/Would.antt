-- The list that an addition would leave, within the limits or above them, and where there is none.
--     Utf8Name n p         the bytes of the display name n, if there is one, are the UTF-8 of the name p
--     Utf8Mailbox n a m    a name and an address are the UTF-8 of the mailbox m
--     Would l a w          the addition a would leave the list w of l. So its bytes are well-formed, and a group that it names
--                          stands in l
--     IllMailbox n a p     a name, or else the address behind a well-formed name, is ill-formed at its byte p
--     Denied l a f         there is no list that a would leave of l, and the fault f says what is wrong first
--     Unreadable w         no text at all reads as the list w
-- Assumes nothing.
use Rattle.std.specs.Prelude.{◌≡◌, ℕ, List, [], ◌∷◌, ◌++◌, Some, None, Option}
use Rattle.std.specs.List.{slice_get}
use Rattle.marks.specs.declared.fault.Fault.{Fault}
use Rattle.marks.specs.declared.fault.Ground.TheVariants.{IllFormedUtf8, NoSuchEntry, NotAGroup}
use Rattle.addresses.specs.Mailboxes.{Mailbox, mailbox, Entry, loose, group}
use Rattle.addresses.specs.ReadsAs.{ReadsAs}
use Rattle.addresses.specs.WellFormed.{Utf8Of, IllAt}
use Rattle.addresses.specs.Refusals.{list_fault}
use Rattle.addresses.specs.Additions.{Addition, new_mailbox, new_group, new_member}
use Rattle.addresses.specs.Changes.{Enlarged}

abbrev pub Utf8Name : Option (List ℕ) → Option (List ℕ) → Type 0
Utf8Name None None = Unit {0}
Utf8Name None (Some cs) = ⊥
Utf8Name (Some bs) None = ⊥
Utf8Name (Some bs) (Some cs) = Utf8Of bs cs

abbrev pub Utf8Mailbox : Option (List ℕ) → List ℕ → Mailbox → Type 0
Utf8Mailbox n a (mailbox name address) = Utf8Name n name × Utf8Of a address

abbrev pub Would : List Entry → Addition → List Entry → Type 0
Would l (new_mailbox n a) w = (m : Mailbox) × Utf8Mailbox n a m × (w ≡ l ++ loose m ∷ [])
Would l (new_group n) w = (name : List ℕ) × Utf8Of n name × (w ≡ l ++ group name [] ∷ [])
Would l (new_member i n a) w = (m : Mailbox) × Utf8Mailbox n a m × Enlarged l i m w

pub data IllMailbox : Option (List ℕ) → List ℕ → ℕ → Type 0 where
  in_name : {n a : List ℕ} {p : ℕ} → IllAt n p → IllMailbox (Some n) a p
  in_address : {n : Option (List ℕ)} {a : List ℕ} {p : ℕ} → (name : Option (List ℕ)) × Utf8Name n name → IllAt a p → IllMailbox n a p

pub data Denied (l : List Entry) : Addition → Fault → Type 0 where
  no_entry : {i : ℕ} {n : Option (List ℕ)} {a : List ℕ} → slice_get l i ≡ None → Denied l (new_member i n a) (list_fault NoSuchEntry i)
  no_group : {i : ℕ} {m : Mailbox} {n : Option (List ℕ)} {a : List ℕ} → slice_get l i ≡ Some (loose m) → Denied l (new_member i n a) (list_fault NotAGroup i)
  ill_mailbox : {n : Option (List ℕ)} {a : List ℕ} {p : ℕ} → IllMailbox n a p → Denied l (new_mailbox n a) (list_fault IllFormedUtf8 p)
  ill_group : {n : List ℕ} {p : ℕ} → IllAt n p → Denied l (new_group n) (list_fault IllFormedUtf8 p)
  ill_member : {i : ℕ} {name : List ℕ} {ms : List Mailbox} {n : Option (List ℕ)} {a : List ℕ} {p : ℕ}
      → slice_get l i ≡ Some (group name ms) → IllMailbox n a p → Denied l (new_member i n a) (list_fault IllFormedUtf8 p)

abbrev pub Unreadable : List Entry → Type 0
Unreadable w = (bs : List ℕ) → ReadsAs bs w → ⊥
