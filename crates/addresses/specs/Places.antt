-- The parts of a list, by their places from 0 on, and how a call is refused that names one that is not there.
--     Group            a group's name and its members
--     entry_at l i     the entry i of the list l
--     group_at l i     the group that is the entry i of l
--     member_at g j    the member j of the group g
-- Assumes nothing.
use Rattle.std.specs.Prelude.{ℕ, List, Ok, Err, Result}
use Rattle.std.specs.List.{slice_get}
use Rattle.marks.specs.declared.fault.Fault.{Fault}
use Rattle.marks.specs.declared.fault.Ground.TheVariants.{NoSuchEntry, NotAGroup, NoSuchMember}
use Rattle.addresses.specs.Mailboxes.{Mailbox, Entry, loose, group}
use Rattle.addresses.specs.Refusals.{list_fault, ◌>>=◌, found}

pub record Group : Type 0 where
  pub name : List ℕ
  pub members : List Mailbox

abbrev pub entry_at : List Entry → ℕ → Result Entry Fault
entry_at l i = found (slice_get l i) NoSuchEntry i

-- the entry e, which is the i-th, as a group
abbrev pub as_group : ℕ → Entry → Result Group Fault
as_group i (loose m) = Err (list_fault NotAGroup i)
as_group i (group n ms) = Ok (record { name = n; members = ms })

abbrev pub group_at : List Entry → ℕ → Result Group Fault
group_at l i = entry_at l i >>= as_group i

abbrev pub member_at : Group → ℕ → Result Mailbox Fault
member_at g j = found (slice_get g.members j) NoSuchMember j
