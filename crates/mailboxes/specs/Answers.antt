-- What calls answer, in the words of the model.
--     settled o    that o is there, or the fault
--     sight r      what a look shows, or the fault
-- Assumes nothing.
use Rattle.std.specs.Prelude.{Ok, Err, Result}
use Rattle.marks.specs.declared.fault.Fault.{Fault}
use Rattle.addresses.specs.Looks.{Seen}
use Rattle.store.specs.Looks.{seen}
use Rattle.store.specs.declared.look.Look.{Look}

abbrev pub settled : {X : Type 0} → Result X Fault → Result (Unit {0}) Fault
settled (Ok x) = Ok tt
settled (Err f) = Err f

abbrev pub sight : Result Look Fault → Result Seen Fault
sight (Ok v) = Ok (seen v)
sight (Err f) = Err f
