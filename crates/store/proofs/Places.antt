-- Where the entry i of a list begins in the records and in the characters.
--     boxes_all                    how many records of mailboxes there are
--     boxes_before, boxes_front    how many records of mailboxes stand before it, and which
--     chars_before                 how many characters
--     boxes_fit, chars_fit         they are no more than there are
-- Assumes nothing.
use Rattle.std.proofs.Common.{◌≡◌, ℕ, ◌+◌, ◌≤◌, List, [], ◌∷◌, map, length, take, drop, sum_by, sym, refl, ap, ◌∙◌, arith}
use Rattle.std.proofs.lemmas.Grind.{flat_map-append}
use Rattle.std.proofs.lemmas.List.{length-map, map-append, take-append-drop, take_at, take-map}
use Rattle.std.proofs.lemmas.List.Sums.{sum_by-append, sum_by-cons, sum_by-take-le}
use Rattle.addresses.specs.Mailboxes.{Entry, mailboxes_in as boxes_in, characters_in, mailboxes, characters}
use Rattle.store.specs.Layout.{boxes, all_boxes, mailbox_record, entry_record, record_size, title_size, box_count, dealt, Laid}
use Rattle.store.specs.declared.records.MailboxRecord.{MailboxRecord}
use Rattle.store.specs.declared.records.EntryRecord.{EntryRecord}
use Rattle.store.proofs.Laying.{sum_by_map, length_all_boxes, box_count_is, entry_size_is}
use Rattle.store.proofs.Held.{mailboxes_held, characters_held}

-- the names of the groups and the mailboxes have all of a list's characters
sizes_in_all : (l : List Entry) → sum_by title_size (map entry_record l) + sum_by record_size (map mailbox_record (all_boxes l)) ≡ characters l
sizes_in_all [] = refl
sizes_in_all (e ∷ l) =
    omega (
      arith,
      sizes_in_all l,
      entry_size_is e,
      sum_by-cons characters_in e l,
      sum_by-cons title_size (entry_record e) (map entry_record l),
      ap (sum_by record_size) (map-append mailbox_record (boxes e) (all_boxes l)),
      sum_by-append record_size (map mailbox_record (boxes e)) (map mailbox_record (all_boxes l)),
    )

pub boxes_all : {rs : List EntryRecord} {bs : List MailboxRecord} {cs : List ℕ} → Laid rs bs cs → sum_by box_count rs ≡ mailboxes (dealt rs bs cs)
boxes_all {rs} {bs} {cs} h = ap (sum_by box_count) h.0 ∙ sum_by_map entry_record box_count boxes_in box_count_is (dealt rs bs cs)

module _ {rs : List EntryRecord} {bs : List MailboxRecord} {cs : List ℕ} (h : Laid rs bs cs) (i : ℕ) where
  pub boxes_before : sum_by box_count (take i rs) ≡ mailboxes (take i (dealt rs bs cs))
  boxes_before =
      ap (λ l. sum_by box_count (take i l)) h.0
      ∙ ap (sum_by box_count) (take-map entry_record i (dealt rs bs cs))
      ∙ sum_by_map entry_record box_count boxes_in box_count_is (take i (dealt rs bs cs))

  pub boxes_front : take (mailboxes (take i (dealt rs bs cs))) bs ≡ map mailbox_record (all_boxes (take i (dealt rs bs cs)))
  boxes_front =
      let front = take i (dealt rs bs cs) in
      let back = drop i (dealt rs bs cs) in
      ap (take (mailboxes front)) (
      h.1
      ∙ ap (λ l. map mailbox_record (all_boxes l)) (sym (take-append-drop i (dealt rs bs cs)))
      ∙ ap (map mailbox_record) (flat_map-append boxes front back)
      ∙ map-append mailbox_record (all_boxes front) (all_boxes back)
      )
      ∙ take_at (map mailbox_record (all_boxes front)) (map mailbox_record (all_boxes back)) _ (length-map (all_boxes front) mailbox_record ∙ length_all_boxes front)

  pub chars_before : sum_by title_size (take i rs) + sum_by record_size (take (mailboxes (take i (dealt rs bs cs))) bs) ≡ characters (take i (dealt rs bs cs))
  chars_before =
      (λ j. sum_by title_size ((ap (take i) h.0 ∙ take-map entry_record i (dealt rs bs cs)) j) + sum_by record_size (boxes_front j))
      ∙ sizes_in_all (take i (dealt rs bs cs))

  pub boxes_fit : mailboxes (take i (dealt rs bs cs)) ≤ length bs
  boxes_fit = omega (arith, sum_by-take-le boxes_in (dealt rs bs cs) i, mailboxes_held h)

  pub chars_fit : characters (take i (dealt rs bs cs)) ≤ length cs
  chars_fit = omega (arith, sum_by-take-le characters_in (dealt rs bs cs) i, characters_held h)
