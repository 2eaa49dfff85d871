-- A list in the making, as the list read so far.
--     led_by e l       the entry e before the list l
--     open_last es     the list es, whose last entry, if it is a group, is open
--     so_far g es   the list es, with an open group at its end where g says so
--     is_open l        a group is open
-- Assumes nothing.
use Rattle.std.specs.Prelude.{Bool, true, false, List, [], ◌∷◌}
use Rattle.addresses.specs.Mailboxes.{Entry, loose, group}
use Rattle.addresses.specs.Steps.{SoFar, outside, inside}

abbrev pub led_by : Entry → SoFar → SoFar
led_by e (outside es) = outside (e ∷ es)
led_by e (inside es n ms) = inside (e ∷ es) n ms

abbrev pub open_last : List Entry → SoFar
open_last [] = outside []
open_last (loose m ∷ []) = outside (loose m ∷ [])
open_last (group n ms ∷ []) = inside [] n ms
open_last (e ∷ f ∷ es) = led_by e (open_last (f ∷ es))

abbrev pub so_far : Bool → List Entry → SoFar
so_far false es = outside es
so_far true es = open_last es

abbrev pub is_open : SoFar → Bool
is_open (outside es) = false
is_open (inside es n ms) = true
