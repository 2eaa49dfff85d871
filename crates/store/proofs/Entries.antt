-- The entry i of a list, by its records and its characters.
--     loose_record, loose_inside, loose_chars, loose_is    a loose mailbox, whose record is at p and whose characters begin at q
--     title_inside, title_is                               the name of a group, which begins at q
-- Assumes nothing.
use Rattle.std.proofs.Common.{◌≡◌, ℕ, suc, ◌+◌, ◌<◌, ◌≤◌, List, [], ◌∷◌, ◌++◌, length, get_or, take, drop, Some, sum_by, sym, refl, ap, ◌∙◌, append_assoc, arith, length-append}
use Rattle.std.specs.List.{flat_map, slice_get}
use Rattle.std.proofs.lemmas.List.{take_at, drop_at}
use Rattle.addresses.specs.Mailboxes.{Mailbox, Entry, loose, group, mailbox_length, mailboxes, characters}
use Rattle.store.specs.Layout.{mailbox_row, row, mailbox_record, mailbox_in, dealt, Laid}
use Rattle.store.specs.declared.records.MailboxRecord.{MailboxRecord}
use Rattle.store.specs.declared.records.EntryRecord.{EntryRecord}
use Rattle.store.proofs.Laying.{length_row}
use Rattle.store.proofs.Standing.{nth_whole}
use Rattle.store.proofs.Replacing.{chars_split}
use Rattle.store.proofs.Boxes.{record_at, record_inside, chars_inside, mailbox_there}

module _ {rs : List EntryRecord} {bs : List MailboxRecord} {cs : List ℕ} (h : Laid rs bs cs) (i : ℕ) where
  abbrev l : List Entry
  l = dealt rs bs cs

  module _ (m : Mailbox) (stands : slice_get l i ≡ Some (loose m)) (p q : ℕ) (p-is : p ≡ mailboxes (take i l)) (q-is : q ≡ characters (take i l)) where
    whole : l ≡ take i l ++ loose m ∷ drop (suc i) l
    whole = nth_whole l i (loose m) stands

    none_before : p ≡ mailboxes (take i l) + 0
    none_before = omega arith

    no_chars_before : q ≡ characters (take i l) + (0 + sum_by mailbox_length [])
    no_chars_before = omega arith

    pub loose_record : (d : MailboxRecord) → get_or bs p d ≡ mailbox_record m
    loose_record = record_at h (take i l) (loose m) (drop (suc i) l) whole [] m [] refl p q none_before no_chars_before

    pub loose_inside : p < length bs
    loose_inside = record_inside h (take i l) (loose m) (drop (suc i) l) whole [] m [] refl p q none_before no_chars_before

    pub loose_chars : q + mailbox_length m ≤ length cs
    loose_chars = chars_inside h (take i l) (loose m) (drop (suc i) l) whole [] m [] refl p q none_before no_chars_before

    pub loose_is : (r : MailboxRecord) → r ≡ mailbox_record m → mailbox_in r (drop q cs) ≡ m
    loose_is = mailbox_there h (take i l) (loose m) (drop (suc i) l) whole [] m [] refl p q none_before no_chars_before

  module _ (t : List ℕ) (ms : List Mailbox) (stands : slice_get l i ≡ Some (group t ms)) (q : ℕ) (q-is : q ≡ characters (take i l)) where
    from_title : drop q cs ≡ t ++ (flat_map mailbox_row ms ++ row (drop (suc i) l))
    from_title =
        ap (drop q) (chars_split h (take i l) (group t ms) (drop (suc i) l) (nth_whole l i (group t ms) stands))
        ∙ drop_at (row (take i l)) ((t ++ flat_map mailbox_row ms) ++ row (drop (suc i) l)) q (length_row (take i l) ∙ sym q-is)
        ∙ append_assoc t (flat_map mailbox_row ms) (row (drop (suc i) l))

    pub title_is : (n : ℕ) → length t ≡ n → take n (drop q cs) ≡ t
    title_is n is = ap (take n) from_title ∙ take_at t (flat_map mailbox_row ms ++ row (drop (suc i) l)) n is

    pub title_inside : q + length t ≤ length cs
    title_inside =
        omega (
          arith,
          ap length (chars_split h (take i l) (group t ms) (drop (suc i) l) (nth_whole l i (group t ms) stands)),
          length-append (row (take i l)) ((t ++ flat_map mailbox_row ms) ++ row (drop (suc i) l)),
          length-append (t ++ flat_map mailbox_row ms) (row (drop (suc i) l)),
          length-append t (flat_map mailbox_row ms),
          length_row (take i l),
        )
