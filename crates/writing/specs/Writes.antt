-- What writing a list answers.
--     told l n   the bytes that the text of the list l takes: Ok if all its characters are scalar values and a buffer of n bytes
--                has room for them, and else Err
-- Assumes nothing.
use Rattle.std.specs.Prelude.{ℕ, cond, ◌&&◌, List, Ok, Err, Result, nat_le}
use Rattle.std.proofs.Math.Utf8.{scalars}
use Rattle.addresses.specs.Mailboxes.{Entry}
use Rattle.addresses.specs.Written.{written}
use Rattle.addresses.specs.Writing.{needed}
use Rattle.writing.specs.declared.text.ShortBuffer.{ShortBuffer}

abbrev pub told : List Entry → ℕ → Result ℕ ShortBuffer
told l n = cond (scalars (written l) && nat_le (needed l) n) (Ok (needed l)) (Err (record { needed = needed l }))
