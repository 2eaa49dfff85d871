-- What comes of a call that changes a list: where its definition gives a list or a fault, what it answers and leaves.
--     done o             that it is done, or the fault
--     left_of l o        the list after it, where it was l: the new one, or the same
--     ComesOut l o r k   the call answers r and leaves k
-- Assumes nothing.
use Rattle.std.specs.Prelude.{◌≡◌, List, Ok, Err, Result}
use Rattle.marks.specs.declared.fault.Fault.{Fault}
use Rattle.addresses.specs.Mailboxes.{Entry}

abbrev pub done : Result (List Entry) Fault → Result (Unit {0}) Fault
done (Ok k) = Ok tt
done (Err f) = Err f

abbrev pub left_of : List Entry → Result (List Entry) Fault → List Entry
left_of l (Ok k) = k
left_of l (Err f) = l

pub record ComesOut (l : List Entry) (o : Result (List Entry) Fault) (r : Result (Unit {0}) Fault) (k : List Entry) : Type 0 where
  pub answers : r ≡ done o
  pub leaves : k ≡ left_of l o
