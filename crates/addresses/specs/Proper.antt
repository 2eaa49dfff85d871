-- Proper lists: what every list keeps.
--     Part cs             cs is a row of at most 2,000 characters
--     PartName n         so is the display name n, if there is one
--     Writable n a        the address a holds no >, or else there is no name n and a is bare
--     ProperBox n a      what a mailbox of the name n and the address a keeps
--     ProperGroup n ms   what a group of the name n and the members ms keeps
--     ProperMailbox, ProperEntry    the same of a mailbox and of an entry
--     Proper l            the list l is proper
-- Assumes nothing.
use Rattle.std.specs.Prelude.{◌≡◌, ℕ, ◌≤◌, true, false, ◌⊎◌, List, length, Some, None, Option}
use Rattle.std.proofs.Math.Utf8.{scalars}
use Rattle.std.specs.List.{AllByRecursion as Every}
use Rattle.characters.specs.WhiteSpace.{among}
use Rattle.addresses.specs.Signs.{close_bracket, at_sign}
use Rattle.addresses.specs.Mailboxes.{Mailbox, mailbox, Entry, loose, group}
use Rattle.addresses.specs.Limits.{Within}
use Rattle.addresses.specs.Bare.{bare}

pub record Part (cs : List ℕ) : Type 0 where
  pub few : length cs ≤ 2000
  pub scalar : scalars cs ≡ true

abbrev pub PartName : Option (List ℕ) → Type 0
PartName None = Unit {0}
PartName (Some n) = Part n

abbrev pub Writable : Option (List ℕ) → List ℕ → Type 0
Writable None a = (among close_bracket a ≡ false) ⊎ (bare a ≡ true)
Writable (Some n) a = among close_bracket a ≡ false

pub record ProperBox (n : Option (List ℕ)) (a : List ℕ) : Type 0 where
  pub name : PartName n
  pub address : Part a
  pub has_at : among at_sign a ≡ true
  pub writable : Writable n a

abbrev pub ProperMailbox : Mailbox → Type 0
ProperMailbox (mailbox n a) = ProperBox n a

pub record ProperGroup (n : List ℕ) (ms : List Mailbox) : Type 0 where
  pub name : Part n
  pub members : Every ProperMailbox ms

abbrev pub ProperEntry : Entry → Type 0
ProperEntry (loose m) = ProperMailbox m
ProperEntry (group n ms) = ProperGroup n ms

pub record Proper (l : List Entry) : Type 0 where
  pub entries : Every ProperEntry l
  pub limits : Within l
