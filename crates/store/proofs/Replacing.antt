-- A list with one of its entries replaced by another.
--     *_split            how the records and the characters lie around that entry
--     replaced           the list is laid out as those with the new entry's in their place
--     replaced_groups    it has as many groups, where the new entry is one if the old was
-- Assumes nothing.
use Rattle.std.proofs.Common.{◌≡◌, ℕ, ◌+◌, List, ◌∷◌, ◌++◌, map, sym, ap, ◌∙◌}
use Rattle.std.proofs.lemmas.Grind.{flat_map-append}
use Rattle.std.proofs.lemmas.List.{map-append}
use Rattle.std.proofs.lemmas.List.Sums.{sum_by-append, sum_by-cons}
use Rattle.addresses.specs.Mailboxes.{Entry, groups_in, groups}
use Rattle.store.specs.Layout.{boxes, entry_row, all_boxes, row, mailbox_record, entry_record, dealt, Laid}
use Rattle.store.specs.declared.records.MailboxRecord.{MailboxRecord}
use Rattle.store.specs.declared.records.EntryRecord.{EntryRecord}
use Rattle.store.proofs.Laying.{Stands}

-- the records of a list's mailboxes
abbrev pub box_records : List Entry → List MailboxRecord
box_records l = map mailbox_record (all_boxes l)

box_records_mid : (es : List Entry) (e : Entry) (fs : List Entry) → box_records (es ++ e ∷ fs) ≡ box_records es ++ (map mailbox_record (boxes e) ++ box_records fs)
box_records_mid es e fs =
    ap (map mailbox_record) (flat_map-append boxes es (e ∷ fs))
    ∙ map-append mailbox_record (all_boxes es) (boxes e ++ all_boxes fs)
    ∙ ap (λ l. box_records es ++ l) (map-append mailbox_record (boxes e) (all_boxes fs))

pub groups_mid : (es : List Entry) (e : Entry) (fs : List Entry) → groups (es ++ e ∷ fs) ≡ groups es + (groups_in e + groups fs)
groups_mid es e fs = sum_by-append groups_in es (e ∷ fs) ∙ ap (λ k. groups es + k) (sum_by-cons groups_in e fs)

module _ {rs : List EntryRecord} {bs : List MailboxRecord} {cs : List ℕ} (h : Laid rs bs cs) (es : List Entry) (e : Entry) (fs : List Entry) (w : dealt rs bs cs ≡ es ++ e ∷ fs) where
  pub records_split : rs ≡ map entry_record es ++ entry_record e ∷ map entry_record fs
  records_split = h.0 ∙ ap (map entry_record) w ∙ map-append entry_record es (e ∷ fs)

  pub boxes_split : bs ≡ box_records es ++ (map mailbox_record (boxes e) ++ box_records fs)
  boxes_split = h.1 ∙ ap box_records w ∙ box_records_mid es e fs

  pub chars_split : cs ≡ row es ++ (entry_row e ++ row fs)
  chars_split = h.2 ∙ ap row w ∙ flat_map-append entry_row es (e ∷ fs)

  pub replaced : (e' : Entry) {rs' : List EntryRecord} {bs' : List MailboxRecord} {cs' : List ℕ}
      → rs' ≡ map entry_record es ++ entry_record e' ∷ map entry_record fs
      → bs' ≡ box_records es ++ (map mailbox_record (boxes e') ++ box_records fs)
      → cs' ≡ row es ++ (entry_row e' ++ row fs)
      → Stands (es ++ e' ∷ fs) rs' bs' cs'
  replaced e' r b c = record {
    records = r ∙ sym (map-append entry_record es (e' ∷ fs));
    box_records = b ∙ sym (box_records_mid es e' fs);
    chars = c ∙ sym (flat_map-append entry_row es (e' ∷ fs));
  }

  pub replaced_groups : (e' : Entry) → groups_in e' ≡ groups_in e → groups (es ++ e' ∷ fs) ≡ groups (dealt rs bs cs)
  replaced_groups e' g = groups_mid es e' fs ∙ ap (λ k. groups es + (k + groups fs)) g ∙ sym (ap groups w ∙ groups_mid es e fs)
