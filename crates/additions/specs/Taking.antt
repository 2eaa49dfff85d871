-- What an addition is given as bytes, judged as far as the list has no part in it.
--     passed cs x          x, if all of the checks cs pass, or else the ground of the first that fails, at the place 0
--     own_checks m         what is checked of the mailbox m, whatever list it comes to: `mailbox_checks` but for the last
--     own_group_checks n   the same of a group's name
--     taken_mailbox n a    the mailbox of a name and an address, or the fault
--     taken_group n        the name of a group, or the fault
--     fitted k             the list k that an addition would leave, if it is within the limits: the last check
--     leaving r x          what a call leaves that answers r: x where it is done, or else its fault
-- `Joining` in proofs/ says that taking, and then the last check, is adding as `added` has it. Assumes nothing.
use Rattle.std.specs.Prelude.{ℕ, cond, List, [], ◌∷◌, Ok, Err, Option, Result, nat_le}
use Rattle.characters.specs.WhiteSpace.{among}
use Rattle.marks.specs.declared.fault.Fault.{Fault}
use Rattle.marks.specs.declared.fault.Ground.TheVariants.{AddressWithoutAt, LongName, LongAddress, FullList, UnwritableAddress}
use Rattle.addresses.specs.Signs.{at_sign}
use Rattle.addresses.specs.Mailboxes.{Mailbox, mailbox, Entry, name_length}
use Rattle.addresses.specs.Limits.{short, within}
use Rattle.addresses.specs.Fine.{writable}
use Rattle.addresses.specs.Refusals.{list_fault, ◌>>=◌, Check, ◌else◌}
use Rattle.addresses.specs.Additions.{text_of, mailbox_of}

abbrev pub passed : {X : Type 0} → List Check → X → Result X Fault
passed [] x = Ok x
passed ((b else g) ∷ cs) x = cond b (passed cs x) (Err (list_fault g 0))

abbrev pub own_checks : Mailbox → List Check
own_checks (mailbox n a) =
    nat_le (name_length n) 2000 else LongName
    ∷ short a else LongAddress
    ∷ among at_sign a else AddressWithoutAt
    ∷ writable n a else UnwritableAddress
    ∷ []

abbrev pub own_group_checks : List ℕ → List Check
own_group_checks n = short n else LongName ∷ []

abbrev pub taken_mailbox : Option (List ℕ) → List ℕ → Result Mailbox Fault
taken_mailbox n a = do
  m ← mailbox_of n a
  passed (own_checks m) m

abbrev pub taken_group : List ℕ → Result (List ℕ) Fault
taken_group n = do
  name ← text_of n
  passed (own_group_checks name) name

abbrev pub fitted : List Entry → Result (List Entry) Fault
fitted k = cond (within k) (Ok k) (Err (list_fault FullList 0))

abbrev pub leaving : {U X : Type 0} → Result U Fault → X → Result X Fault
leaving (Ok u) x = Ok x
leaving (Err f) x = Err f
