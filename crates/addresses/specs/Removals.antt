-- Removals: the list that each leaves, or the fault.
--     without xs i      the row xs without its i-th
--     removed l i o     the list l without its entry i, or, where a member is named, without that member of the entry
-- A group goes with its members, and stays where its last member goes. Assumes nothing.
use Rattle.std.specs.Prelude.{ℕ, List, Some, None, Ok, Option, Result, slice_set}
use Rattle.std.specs.List.{remove as without}
use Rattle.marks.specs.declared.fault.Fault.{Fault}
use Rattle.addresses.specs.Mailboxes.{Entry, group}
use Rattle.addresses.specs.Refusals.{◌>>=◌}
use Rattle.addresses.specs.Places.{entry_at, group_at, member_at}

abbrev pub removed : List Entry → ℕ → Option ℕ → Result (List Entry) Fault
removed l i None = do
  _ ← entry_at l i
  Ok (without l i)
removed l i (Some j) = do
  g ← group_at l i
  _ ← member_at g j
  Ok (slice_set l i (group g.name (without g.members j)))
