-- The laws of readings, texts and proper lists.
--     ReadExactly         a read is accepted exactly when the source closes with the end and its marks have a reading
--     AcceptedTakesAll    an accepted read leaves no mark
--     ReadIsProper        whatever is read of proper marks is proper
--     ReadsBack           every proper list reads back from its written text, which is UTF-8 of at most 35,008 bytes
--     ReadableIsProper    some text reads as a list exactly when the list is proper
--     OneReading          a text reads as one list at most
--     OneList             two proper lists with the same written text are the same
--     FineIsProper        a list passes the test `fine` exactly when it is proper
-- Assumes nothing.
use Rattle.std.specs.Prelude.{◌≡◌, ℕ, ◌≤◌, true, ◌↔◌, List, [], length, Ok, IsUtf8}
use Rattle.marks.specs.declared.mark.Mark.{Mark}
use Rattle.marks.specs.Gives.{Close}
use Rattle.marks.specs.Proper.{AllProper}
use Rattle.addresses.specs.Mailboxes.{Entry}
use Rattle.addresses.specs.Reading.{reading, HasReading}
use Rattle.addresses.specs.Written.{written_bytes}
use Rattle.addresses.specs.Proper.{Proper}
use Rattle.addresses.specs.Fine.{fine}
use Rattle.addresses.specs.ReadsAs.{ReadsAs}

abbrev pub ReadExactly : Type 0
ReadExactly = (ms : List Mark) (x : Close) (l : List Entry) → ((reading ms x).answer ≡ Ok l) ↔ ((x ≡ Ok tt) × HasReading ms l)

abbrev pub AcceptedTakesAll : Type 0
AcceptedTakesAll = (ms : List Mark) (x : Close) (l : List Entry) → (reading ms x).answer ≡ Ok l → (reading ms x).left ≡ []

abbrev pub ReadIsProper : Type 0
ReadIsProper = (ms : List Mark) (x : Close) (l : List Entry) → AllProper ms → (reading ms x).answer ≡ Ok l → Proper l

pub record ReadBack (l : List Entry) : Type 0 where
  pub few : length (written_bytes l) ≤ 35008
  pub well_formed : IsUtf8 (written_bytes l)
  pub back : ReadsAs (written_bytes l) l

abbrev pub ReadsBack : Type 0
ReadsBack = (l : List Entry) → Proper l → ReadBack l

abbrev pub ReadableIsProper : Type 0
ReadableIsProper = (l : List Entry) → ((bs : List ℕ) × ReadsAs bs l) ↔ Proper l

abbrev pub OneReading : Type 0
OneReading = (bs : List ℕ) (l k : List Entry) → ReadsAs bs l → ReadsAs bs k → l ≡ k

abbrev pub OneList : Type 0
OneList = (l k : List Entry) → Proper l → Proper k → written_bytes l ≡ written_bytes k → l ≡ k

abbrev pub FineIsProper : Type 0
FineIsProper = (l : List Entry) → (fine l ≡ true) ↔ Proper l
