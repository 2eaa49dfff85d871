-- Samples of additions and removals, and of which ground comes first where several are there.
--     one, grouped, full    the list of the mailbox a@b, that of a group g with this one member, and that of 256 such mailboxes
--     ill, long             bytes that no text has, and a row of 2,001 characters
--     written_of o          the written text of the list that a call leaves, or the fault
--     o gives r             a sample: what comes of a call, and what is to come of it. `Holds` says that it does
--     edit_samples          the collection; `EditSamplesHold` says that all of it is right
-- Assumes nothing.
use Rattle.std.specs.Prelude.{◌≡◌, ℕ, List, [], ◌∷◌, replicate, Some, None, Ok, Err, codes, Result}
use Rattle.std.specs.List.{AllByRecursion as Every}
use Rattle.marks.specs.declared.fault.Fault.{Fault}
use Rattle.marks.specs.declared.fault.Ground.TheVariants.{AddressWithoutAt, LongName, LongAddress, FullList, IllFormedUtf8, UnwritableAddress, NoSuchEntry, NotAGroup, NoSuchMember}
use Rattle.addresses.specs.Mailboxes.{mailbox, Entry, loose, group}
use Rattle.addresses.specs.Written.{written_bytes}
use Rattle.addresses.specs.Refusals.{list_fault, ◌>>=◌}
use Rattle.addresses.specs.Additions.{new_mailbox, new_group, new_member, added}
use Rattle.addresses.specs.Removals.{removed}

abbrev pub one : List Entry
one = loose (mailbox None (codes "a@b")) ∷ []

abbrev pub grouped : List Entry
grouped = group (codes "g") (mailbox None (codes "a@b") ∷ []) ∷ []

abbrev pub full : List Entry
full = replicate 256 (loose (mailbox None (codes "a@b")))

abbrev pub written_of : Result (List Entry) Fault → Result (List ℕ) Fault
written_of o = do
  k ← o
  Ok (written_bytes k)

infixr 68 ◌gives◌
pub data Sample : Type 0 where
  ◌gives◌ : Result (List Entry) Fault → Result (List ℕ) Fault → Sample

abbrev pub Holds : Sample → Type 0
Holds (o gives r) = written_of o ≡ r

-- no character begins at its second byte
abbrev pub ill : List ℕ
ill = 64 ∷ 255 ∷ []

-- a character more than is allowed
abbrev pub long : List ℕ
long = replicate 2001 62

abbrev pub edit_samples : List Sample
edit_samples =
    -- an address that is not bare is written in brackets
    added [] (new_mailbox None (codes " a@b")) gives Ok (codes "< a@b>")
    ∷ added [] (new_mailbox None (codes "a>b@c")) gives Ok (codes "a>b@c")
    ∷ added [] (new_mailbox None (codes "a,b>@c")) gives Err (list_fault UnwritableAddress 0)
    ∷ added [] (new_mailbox (Some (codes "n")) (codes "a>b@c")) gives Err (list_fault UnwritableAddress 0)
    -- an empty name is another than none
    ∷ added one (new_mailbox (Some []) (codes "c@d")) gives Ok (codes "a@b, \"\" <c@d>")
    ∷ added one (new_group (codes "g")) gives Ok (codes "a@b, \"g\":;")
    ∷ added grouped (new_member 0 None (codes "c@d")) gives Ok (codes "\"g\": a@b, c@d;")
    -- the grounds in their order
    ∷ added [] (new_member 3 (Some ill) ill) gives Err (list_fault NoSuchEntry 3)
    ∷ added one (new_member 0 (Some ill) ill) gives Err (list_fault NotAGroup 0)
    ∷ added [] (new_mailbox (Some (97 ∷ ill)) ill) gives Err (list_fault IllFormedUtf8 2)
    ∷ added [] (new_mailbox (Some long) ill) gives Err (list_fault IllFormedUtf8 1)
    ∷ added [] (new_mailbox (Some long) long) gives Err (list_fault LongName 0)
    ∷ added [] (new_mailbox (Some []) long) gives Err (list_fault LongAddress 0)
    ∷ added [] (new_mailbox (Some []) (codes ">")) gives Err (list_fault AddressWithoutAt 0)
    ∷ added full (new_mailbox (Some []) (codes "@>")) gives Err (list_fault UnwritableAddress 0)
    ∷ added full (new_mailbox None (codes "@")) gives Err (list_fault FullList 0)
    ∷ added full (new_group long) gives Err (list_fault LongName 0)
    -- a group outlives its members, and goes with them
    ∷ removed grouped 0 (Some 0) gives Ok (codes "\"g\":;")
    ∷ removed grouped 0 None gives Ok []
    ∷ removed grouped 1 (Some 0) gives Err (list_fault NoSuchEntry 1)
    ∷ removed one 0 (Some 7) gives Err (list_fault NotAGroup 0)
    ∷ removed grouped 0 (Some 1) gives Err (list_fault NoSuchMember 1)
    ∷ []

abbrev pub EditSamplesHold : Type 0
EditSamplesHold = Every Holds edit_samples
