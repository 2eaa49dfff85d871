-- What writing a list answers is what the model answers, if its fault is made of the bytes needed. Assumes nothing.
--     told_done     where the text is put
--     told_short    where it is refused, though all characters are scalar values
use Rattle.std.proofs.Common.{◌≡◌, ℕ, Bool, true, false, cond, ◌&&◌, leb, List, Ok, Err, Result, ap}
use lib.Utf8.{scalars}
use Rattle.marks.specs.declared.fault.Fault.{Fault}
use Rattle.marks.specs.declared.fault.Ground.TheVariants as ground_of
use Rattle.addresses.specs.Mailboxes.{Entry}
use Rattle.addresses.specs.Refusals.{list_fault}
use Rattle.addresses.specs.Written.{written}
use Rattle.addresses.specs.Writing.{needed, writing}
use Rattle.writing.specs.declared.text.ShortBuffer.{ShortBuffer}
use Rattle.writing.specs.Writes.{told}

abbrev short : ℕ → Result ℕ Fault
short k = Err (list_fault ground_of.ShortBuffer k)

abbrev room : Bool → ℕ → Result ℕ ShortBuffer
room b k = cond b (Ok k) (Err (record { needed = k }))

module _ (l : List Entry) (n : ℕ) where
  pub told_done : (k : ℕ) → Ok k ≡ told l n → Ok k ≡ writing l n
  told_done k e = by (scalars (written l)) (leb (needed l) n) e
    where
      by : (s fits : Bool) → Ok k ≡ room (s && fits) (needed l) → Ok k ≡ cond fits (Ok (needed l)) (short (needed l))
      by true true e = let same : k ≡ needed l = cc in ap Ok same
      by true false e = cc
      by false fits e = cc

  pub told_short : (f : ShortBuffer) → scalars (written l) ≡ true → Err f ≡ told l n → short f.needed ≡ writing l n
  told_short f s e = by (scalars (written l)) (leb (needed l) n) s e
    where
      by : (s fits : Bool) → s ≡ true → Err f ≡ room (s && fits) (needed l) → short f.needed ≡ cond fits (Ok (needed l)) (short (needed l))
      by true true s e = cc
      by true false s e = let same : f ≡ record { needed = needed l } = cc in ap (λ x. short x.needed) same
      by false fits s e = cc
