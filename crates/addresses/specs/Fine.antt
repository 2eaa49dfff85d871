-- The test of a proper list. A list's record keeps the outcome of a test, not a statement, since a test has one outcome.
--     every f xs      each of xs passes the test f
--     part, name_part, writable, mailbox_fine, entry_fine    the tests of Part, PartName, Writable and so on
--     fine l          the list l passes; `FineIsProper` in Laws says that it is proper then, and only then
-- Assumes nothing.
use Rattle.std.specs.Prelude.{ℕ, Bool, true, not, ◌&&◌, ◌||◌, List, [], ◌∷◌, Some, None, Option}
use Rattle.std.proofs.Math.Utf8.{scalars}
use Rattle.characters.specs.WhiteSpace.{among}
use Rattle.addresses.specs.Signs.{close_bracket, at_sign}
use Rattle.addresses.specs.Mailboxes.{Mailbox, mailbox, Entry, loose, group}
use Rattle.addresses.specs.Limits.{short, within}
use Rattle.addresses.specs.Bare.{bare}

abbrev pub every : {X : Type 0} → (X → Bool) → List X → Bool
every f [] = true
every f (x ∷ xs) = f x && every f xs

abbrev pub part : List ℕ → Bool
part cs = short cs && scalars cs

abbrev pub name_part : Option (List ℕ) → Bool
name_part None = true
name_part (Some n) = part n

abbrev pub writable : Option (List ℕ) → List ℕ → Bool
writable None a = not (among close_bracket a) || bare a
writable (Some n) a = not (among close_bracket a)

abbrev pub mailbox_fine : Mailbox → Bool
mailbox_fine (mailbox n a) = name_part n && (part a && (among at_sign a && writable n a))

abbrev pub entry_fine : Entry → Bool
entry_fine (loose m) = mailbox_fine m
entry_fine (group n ms) = part n && every mailbox_fine ms

unfoldable pub fine : List Entry → Bool
fine l = every entry_fine l && within l
