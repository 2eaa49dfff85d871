-- Writing a list into a buffer.
--     needed l        the number of bytes of the list's written text
--     writing l n     that number, if a buffer of n bytes has room for them, or the fault
--     filled l b      what the buffer b then holds: the text, and behind it what stood there; on a refusal all is as it was
-- Assumes nothing.
use Rattle.std.specs.Prelude.{ℕ, cond, List, ◌++◌, length, drop, Ok, Err, Result, nat_le}
use Rattle.marks.specs.declared.fault.Fault.{Fault}
use Rattle.marks.specs.declared.fault.Ground.TheVariants.{ShortBuffer}
use Rattle.addresses.specs.Mailboxes.{Entry}
use Rattle.addresses.specs.Written.{written_bytes}
use Rattle.addresses.specs.Refusals.{list_fault}

abbrev pub needed : List Entry → ℕ
needed l = length (written_bytes l)

abbrev pub writing : List Entry → ℕ → Result ℕ Fault
writing l n = cond (nat_le (needed l) n) (Ok (needed l)) (Err (list_fault ShortBuffer (needed l)))

abbrev pub filled : List Entry → List ℕ → List ℕ
filled l b = cond (nat_le (needed l) (length b)) (written_bytes l ++ drop (needed l) b) b
