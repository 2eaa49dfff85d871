-- The member j of the entry i of a list, which is m.
--     boxes_upto, chars_upto          what stands before it
--     members_before                  the records of those before it in the group
--     member_inside, member_record    its record
--     member_chars, member_is         its characters
-- Assumes nothing.
use Rattle.std.proofs.Common.{◌≡◌, ℕ, suc, ◌+◌, ◌<◌, ◌≤◌, List, [], ◌∷◌, ◌++◌, map, length, get_or, take, drop, Some, None, sum_by, Option, refl, ap, ◌∙◌, arith}
use Rattle.std.specs.Option.{option_map}
use Rattle.std.specs.List.{slice_get}
use Rattle.std.proofs.lemmas.List.{length-take-le}
use Rattle.std.proofs.lemmas.List.Sums.{sum_by_push}
use Rattle.std.proofs.lemmas.Option.{slice_get_within}
use Rattle.addresses.specs.Mailboxes.{Mailbox, Entry, group, mailbox_length, mailboxes_in as boxes_in, characters_in, mailboxes, characters}
use Rattle.store.specs.Layout.{mailbox_record, mailbox_in, dealt, Laid}
use Rattle.store.specs.Places.{cut, upto}
use Rattle.store.specs.declared.place.Place.{Place}
use Rattle.store.specs.declared.records.MailboxRecord.{MailboxRecord}
use Rattle.store.specs.declared.records.EntryRecord.{EntryRecord}
use Rattle.store.proofs.Standing.{nth_whole, MemberThere}
use Rattle.store.proofs.Boxes.{own_before, record_at, record_inside, chars_inside, mailbox_there}

-- what the answer of `member_place` tells
pub told_place : (o : Option Mailbox) (p x : Place) → Some p ≡ option_map (λ _. x) o → (m : Mailbox) × (o ≡ Some m) × (p ≡ x)
told_place None p x is = cc
told_place (Some m) p x is = (m, refl, cc)

module _ {rs : List EntryRecord} {bs : List MailboxRecord} {cs : List ℕ} (h : Laid rs bs cs) (i j : ℕ) {m : Mailbox} (g : MemberThere (slice_get (dealt rs bs cs) i) j m) where
  abbrev l : List Entry
  l = dealt rs bs cs

  abbrev front : List Mailbox
  front = take j g.box_row

  upto_is : upto l i j ≡ take i l ++ group g.title front ∷ []
  upto_is = ap (λ o. take i l ++ cut o j) g.stands

  pub boxes_upto : mailboxes (upto l i j) ≡ mailboxes (take i l) + length front
  boxes_upto = ap mailboxes upto_is ∙ sum_by_push boxes_in (take i l) (group g.title front)

  pub chars_upto : characters (upto l i j) ≡ characters (take i l) + (length g.title + sum_by mailbox_length front)
  chars_upto = ap characters upto_is ∙ sum_by_push characters_in (take i l) (group g.title front)

  pub front_long : length front ≡ j
  front_long = length-take-le j g.box_row (omega (arith, slice_get_within g.box_row j m g.member))

  whole : l ≡ take i l ++ group g.title g.box_row ∷ drop (suc i) l
  whole = nth_whole l i (group g.title g.box_row) g.stands

  own : g.box_row ≡ front ++ m ∷ drop (suc j) g.box_row
  own = nth_whole g.box_row j m g.member

  pub members_before : (p : ℕ) → p ≡ mailboxes (take i l) → take j (drop p bs) ≡ map mailbox_record front
  members_before p is = own_before h (take i l) (group g.title g.box_row) (drop (suc i) l) whole front m (drop (suc j) g.box_row) own j p front_long is

  pub member_record : (d : MailboxRecord) → get_or bs (mailboxes (upto l i j)) d ≡ mailbox_record m
  member_record d = record_at h (take i l) (group g.title g.box_row) (drop (suc i) l) whole front m (drop (suc j) g.box_row) own _ _ boxes_upto chars_upto d

  pub member_inside : mailboxes (upto l i j) < length bs
  member_inside = record_inside h (take i l) (group g.title g.box_row) (drop (suc i) l) whole front m (drop (suc j) g.box_row) own _ _ boxes_upto chars_upto

  pub member_chars : characters (upto l i j) + mailbox_length m ≤ length cs
  member_chars = chars_inside h (take i l) (group g.title g.box_row) (drop (suc i) l) whole front m (drop (suc j) g.box_row) own _ _ boxes_upto chars_upto

  pub member_is : (r : MailboxRecord) → r ≡ mailbox_record m → mailbox_in r (drop (characters (upto l i j)) cs) ≡ m
  member_is = mailbox_there h (take i l) (group g.title g.box_row) (drop (suc i) l) whole front m (drop (suc j) g.box_row) own _ _ boxes_upto chars_upto
