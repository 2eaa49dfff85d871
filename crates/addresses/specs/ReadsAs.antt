-- Which list a text reads as.
--     ReadsAs bs l     a text source over the bytes bs closes with the end, and l is the reading of its marks
-- Assumes nothing.
use Rattle.std.specs.Prelude.{◌≡◌, ℕ, List, Ok}
use Rattle.marks.specs.Texts.{text_stream}
use Rattle.addresses.specs.Mailboxes.{Entry}
use Rattle.addresses.specs.Reading.{reading}

pub record ReadsAs (bs : List ℕ) (l : List Entry) : Type 0 where
  pub ends : (text_stream bs).close ≡ Ok tt
  pub reads : (reading (text_stream bs).marks (Ok tt)).answer ≡ Ok l
