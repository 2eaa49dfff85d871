-- A list with one more entry at its end.
--     pushed_keeps       whether it keeps the limits, by what the store measures
--     pushed             it is laid out as the records and the characters with those of the entry behind them
-- Assumes nothing.
use Rattle.std.proofs.Common.{◌≡◌, ℕ, ◌+◌, List, [], ◌∷◌, ◌++◌, map, length, sym, ap, ◌∙◌}
use Rattle.std.proofs.lemmas.List.{map-append}
use Rattle.std.proofs.lemmas.List.Sums.{sum_by_push}
use Rattle.addresses.specs.Mailboxes.{Entry, mailboxes_in as boxes_in, groups_in, characters_in, groups}
use Rattle.addresses.specs.Limits.{within}
use Rattle.store.specs.Layout.{boxes, entry_row, all_boxes, mailbox_record, entry_record, dealt, keeps, Laid}
use Rattle.store.specs.declared.records.MailboxRecord.{MailboxRecord}
use Rattle.store.specs.declared.records.EntryRecord.{EntryRecord}
use Rattle.store.proofs.Laying.{Stands, joined_push}
use Rattle.store.proofs.Held.{within_keeps, mailboxes_held, characters_held}

module _ {rs : List EntryRecord} {bs : List MailboxRecord} {cs : List ℕ} (h : Laid rs bs cs) (e : Entry) where
  pub pushed_keeps : within (dealt rs bs cs ++ e ∷ []) ≡ keeps (length bs + boxes_in e) (groups (dealt rs bs cs) + groups_in e) (length cs + characters_in e)
  pushed_keeps =
      within_keeps _ _ _ _
      (sum_by_push boxes_in (dealt rs bs cs) e ∙ ap (λ k. k + boxes_in e) (mailboxes_held h))
      (sum_by_push groups_in (dealt rs bs cs) e)
      (sum_by_push characters_in (dealt rs bs cs) e ∙ ap (λ k. k + characters_in e) (characters_held h))

  pub pushed : {rs' : List EntryRecord} {bs' : List MailboxRecord} {cs' : List ℕ} → rs' ≡ rs ++ entry_record e ∷ [] → bs' ≡ bs ++ map mailbox_record (boxes e) → cs' ≡ cs ++ entry_row e
      → Stands (dealt rs bs cs ++ e ∷ []) rs' bs' cs'
  pushed r b c = record {
    records = r ∙ ap (λ l. l ++ entry_record e ∷ []) h.0 ∙ sym (map-append entry_record (dealt rs bs cs) (e ∷ []));
    box_records =
        b
        ∙ ap (λ l. l ++ map mailbox_record (boxes e)) h.1
        ∙ sym (map-append mailbox_record (all_boxes (dealt rs bs cs)) (boxes e))
        ∙ ap (map mailbox_record) (sym (joined_push boxes (dealt rs bs cs) e));
    chars = c ∙ ap (λ l. l ++ entry_row e) h.2 ∙ sym (joined_push entry_row (dealt rs bs cs) e);
  }
