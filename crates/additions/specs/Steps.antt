-- How taking goes: the bytes are read as text first, and only then are the rules looked at.
--     text_in r        the characters of the text that was read, or the fault
--     name_in r        the same of a display name
--     short_name n     the name n, if there is one, is short
--     last_checks m    the checks of the mailbox m that is known to be short
-- Assumes nothing.
use Rattle.std.specs.Prelude.{ℕ, Bool, List, [], ◌∷◌, Ok, Err, Option, Result, nat_le}
use Rattle.std.specs.Borrow.{Bor}
use Rattle.std.specs.Option.{option_map}
use Rattle.std.specs.Str.{chars}
use Rattle.characters.specs.WhiteSpace.{among}
use Rattle.marks.specs.declared.fault.Fault.{Fault}
use Rattle.marks.specs.declared.fault.Ground.TheVariants.{AddressWithoutAt, UnwritableAddress}
use Rattle.addresses.specs.Signs.{at_sign}
use Rattle.addresses.specs.Mailboxes.{Mailbox, mailbox, name_length}
use Rattle.addresses.specs.Fine.{writable}
use Rattle.addresses.specs.Refusals.{Check, ◌else◌}

abbrev pub text_in : Result (Bor (List ℕ)) Fault → Result (List ℕ) Fault
text_in (Ok s) = Ok (chars s.now)
text_in (Err f) = Err f

abbrev pub name_in : Result (Option (Bor (List ℕ))) Fault → Result (Option (List ℕ)) Fault
name_in (Ok o) = Ok (option_map (λ s. chars s.now) o)
name_in (Err f) = Err f

abbrev pub short_name : Option (List ℕ) → Bool
short_name n = nat_le (name_length n) 2000

abbrev pub last_checks : Mailbox → List Check
last_checks (mailbox n a) =
    among at_sign a else AddressWithoutAt
    ∷ writable n a else UnwritableAddress
    ∷ []
