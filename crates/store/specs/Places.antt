-- Where the parts of a list lie in its records and in its characters.
--     extent l      how many mailboxes the list l has, and how many characters: where its end lies
--     upto l i j    the list l up to the member j of its entry i, if that is a group
-- Assumes nothing.
use Rattle.std.specs.Prelude.{ℕ, List, [], ◌∷◌, ◌++◌, take, Some, None, Option}
use Rattle.std.specs.List.{slice_get}
use Rattle.addresses.specs.Mailboxes.{Entry, loose, group, mailboxes, characters}
use Rattle.store.specs.declared.place.Place.{Place}

abbrev pub extent : List Entry → Place
extent l = record { mailboxes = mailboxes l; chars = characters l }

abbrev pub cut : Option Entry → ℕ → List Entry
cut None j = []
cut (Some (loose m)) j = []
cut (Some (group n ms)) j = group n (take j ms) ∷ []

abbrev pub upto : List Entry → ℕ → ℕ → List Entry
upto l i j = take i l ++ cut (slice_get l i) j
