-- Why a part of a list is not there that a call names.
--     Missing l i o f    the list l has no entry i, or, where a member is named, that entry is no group or has no such member,
--                        and the fault f says so
-- Assumes nothing.
use Rattle.std.specs.Prelude.{◌≡◌, ℕ, List, Some, None, Option}
use Rattle.std.specs.List.{slice_get}
use Rattle.marks.specs.declared.fault.Fault.{Fault}
use Rattle.marks.specs.declared.fault.Ground.TheVariants.{NoSuchEntry, NotAGroup, NoSuchMember}
use Rattle.addresses.specs.Mailboxes.{Mailbox, Entry, loose, group}
use Rattle.addresses.specs.Refusals.{list_fault}

pub data Missing (l : List Entry) (i : ℕ) : Option ℕ → Fault → Type 0 where
  no_entry : {o : Option ℕ} → slice_get l i ≡ None → Missing l i o (list_fault NoSuchEntry i)
  no_group : {j : ℕ} {m : Mailbox} → slice_get l i ≡ Some (loose m) → Missing l i (Some j) (list_fault NotAGroup i)
  no_member : {j : ℕ} {n : List ℕ} {ms : List Mailbox} → slice_get l i ≡ Some (group n ms) → slice_get ms j ≡ None → Missing l i (Some j) (list_fault NoSuchMember j)
