-- What the sinks of this crate take.
--     Counted s cs t     the counter s counted the bytes of the characters cs, and is now t
--     TooMany s cs       their number, behind what s counted, is above the largest usize
--     Spared s cs t      the room s has room for the characters cs, which have bytes, and t is what is left of it
--     NoRoom s cs        one of the characters cs has no bytes, or s has no room for them
--     Laid s cs t        the bytes of the characters cs were laid into the buffer of the page s from its place on, which left it as t;
--                        where the place lies in the buffer
--     Written s cs t     so they were, all of them have bytes, and the buffer is still the one that was lent
--     Unwritten s cs     one of the characters cs has no bytes, or the buffer has no room for them from the place on
-- Assumes nothing.
use Rattle.std.specs.Prelude.{◌≡◌, ℕ, ◌+◌, ◌^◌, ◌<◌, ◌≤◌, true, List, length}
use Rattle.std.proofs.Math.Utf8.{scalars, encodes}
use Rattle.writer.specs.Sizes.{byte_length}
use Rattle.writer.specs.Placing.{Lays}
use Rattle.writer.specs.declared.counter.Counter.{Counter}
use Rattle.writer.specs.declared.room.Room.{Room}
use Rattle.writer.specs.declared.page.Page.{Page}

abbrev pub Counted : Counter → List ℕ → Counter → Type 0
Counted s cs t = t.bytes ≡ s.bytes + byte_length cs

abbrev pub TooMany : Counter → List ℕ → Type 0
TooMany s cs = s.bytes + byte_length cs < 2 ^ 64 → ⊥

abbrev pub Spared : Room → List ℕ → Room → Type 0
Spared s cs t = (scalars cs ≡ true) × (s.left ≡ t.left + byte_length cs)

abbrev pub NoRoom : Room → List ℕ → Type 0
NoRoom s cs = scalars cs ≡ true → byte_length cs ≤ s.left → ⊥

abbrev pub Laid : Page → List ℕ → Page → Type 0
Laid s cs t = s.place ≤ length s.buffer.now → Lays s.buffer.now s.place (encodes cs) t.buffer.now t.place

abbrev pub Written : Page → List ℕ → Page → Type 0
Written s cs t = (scalars cs ≡ true) × (t.buffer.ghost_name ≡ s.buffer.ghost_name) × Laid s cs t

abbrev pub Unwritten : Page → List ℕ → Type 0
Unwritten s cs = s.place ≤ length s.buffer.now → scalars cs ≡ true → s.place + byte_length cs ≤ length s.buffer.now → ⊥
