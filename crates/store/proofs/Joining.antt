-- A list with one more member at the end of its entry i, which is a group.
--     insert_mid, append_as_insert    a part put in behind the first two of three, and at the end
--     joined_is                       the list around the group
--     joined_keeps                    whether it keeps the limits, by what the store measures
--     joined_groups                   it has as many groups
--     joined                          it is laid out as the records and the characters with those of the member put in
-- Assumes nothing.
use Rattle.std.proofs.Common.{◌≡◌, ℕ, suc, ◌+◌, List, [], ◌∷◌, ◌++◌, map, length, take, drop, set, sym, refl, ap, subst, ◌∙◌, append_assoc, append-nil, arith, length-append}
use Rattle.std.specs.Option.{option_map}
use Rattle.std.specs.List.{flat_map, slice_get}
use Rattle.std.proofs.lemmas.List.{length-map, map-append, take_at, drop_at, take_all, drop_all, set_at, length-take-le}
use Rattle.std.proofs.lemmas.List.Sums.{sum_by-append, sum_by-cons, sum_by_push}
use Rattle.std.proofs.lemmas.Option.{slice_get_within}
use Rattle.addresses.specs.Mailboxes.{Mailbox, Entry, group, mailbox_length, mailboxes_in as boxes_in, characters_in, mailboxes, groups, characters}
use Rattle.addresses.specs.Limits.{within}
use Rattle.store.specs.Edits.{with_member, replaced, joined_at}
use Rattle.store.specs.Layout.{mailbox_row, entry_row, all_boxes, row, mailbox_record, entry_record, dealt, keeps, Laid}
use Rattle.store.specs.declared.records.MailboxRecord.{MailboxRecord}
use Rattle.store.specs.declared.records.EntryRecord.{EntryRecord}
use Rattle.store.specs.declared.records.EntryRecord.TheVariants.{Group}
use Rattle.store.proofs.Laying.{Stands, joined_push, length_all_boxes, length_row, length_entry_row}
use Rattle.store.proofs.Held.{within_keeps, mailboxes_held, characters_held}
use Rattle.store.proofs.Standing.{nth_whole, nth_front, nth_set, GroupThere}
use Rattle.store.proofs.Replacing.{box_records, groups_mid, records_split, boxes_split, chars_split, replaced as entry_replaced, replaced_groups}

pub insert_mid : {X : Type 0} (a b c x : List X) (m n : ℕ) → length a ≡ m → length b ≡ n → take (m + n) (a ++ (b ++ c)) ++ (x ++ drop (m + n) (a ++ (b ++ c))) ≡ a ++ ((b ++ x) ++ c)
insert_mid a b c x m n am bn =
    let long : length (a ++ b) ≡ m + n = omega (arith, length-append a b) in
    let same = sym (append_assoc a b c) in
    (λ i. (ap (take (m + n)) same ∙ take_at (a ++ b) c (m + n) long) i ++ (x ++ (ap (drop (m + n)) same ∙ drop_at (a ++ b) c (m + n) long) i))
    ∙ append_assoc a b (x ++ c)
    ∙ ap (λ l. a ++ l) (sym (append_assoc b x c))

pub append_as_insert : {X : Type 0} (xs x : List X) (n : ℕ) → length xs ≡ n → xs ++ x ≡ take n xs ++ (x ++ drop n xs)
append_as_insert xs x n e =
    ap (λ l. xs ++ l) (sym (append-nil x)) ∙ (λ i. sym (take_all n xs (omega arith)) i ++ (x ++ sym (drop_all n xs (omega arith)) i))

module _ {rs : List EntryRecord} {bs : List MailboxRecord} {cs : List ℕ} (h : Laid rs bs cs) (i : ℕ) {n k : ℕ} (g : GroupThere (slice_get (dealt rs bs cs) i) n k) (x : Mailbox) where
  abbrev l : List Entry
  l = dealt rs bs cs

  abbrev es : List Entry
  es = take i l

  abbrev fs : List Entry
  fs = drop (suc i) l

  abbrev t : List ℕ
  t = g.title

  abbrev ms : List Mailbox
  ms = g.box_row

  abbrev old : Entry
  old = group t ms

  abbrev new : Entry
  new = group t (ms ++ x ∷ [])

  whole : l ≡ es ++ old ∷ fs
  whole = nth_whole l i old g.stands

  joined_is : joined_at l i x ≡ es ++ new ∷ fs
  joined_is = ap (λ o. replaced l i (option_map (λ e. with_member e x) o)) g.stands ∙ nth_set l i old g.stands new

  pub joined_keeps : within (joined_at l i x) ≡ keeps (length bs + 1) (groups l) (length cs + mailbox_length x)
  joined_keeps =
      ap within joined_is
      ∙ within_keeps _ _ _ _
      (omega (arith, length-append ms (x ∷ []), mailboxes_held h, ap mailboxes whole, sum_by-append boxes_in es (old ∷ fs), sum_by-cons boxes_in old fs, sum_by-append boxes_in es (new ∷ fs), sum_by-cons boxes_in new fs))
      (groups_mid es new fs ∙ sym (groups_mid es old fs) ∙ ap groups (sym whole))
      (omega (arith, sum_by_push mailbox_length ms x, characters_held h, ap characters whole, sum_by-append characters_in es (old ∷ fs), sum_by-cons characters_in old fs, sum_by-append characters_in es (new ∷ fs), sum_by-cons characters_in new fs))

  pub joined_groups : groups (joined_at l i x) ≡ groups l
  joined_groups = ap groups joined_is ∙ replaced_groups h es old fs whole new refl

  -- the records and the characters up to the group's end are the first p and q
  module _ {rs' : List EntryRecord} {bs' : List MailboxRecord} {cs' : List ℕ} {p q : ℕ} (p-is : p ≡ mailboxes (take (i + 1) l)) (q-is : q ≡ characters (take (i + 1) l))
      (r : rs' ≡ set rs i (Group n (k + 1))) (b : bs' ≡ take p bs ++ mailbox_record x ∷ drop p bs) (c : cs' ≡ take q cs ++ (mailbox_row x ++ drop q cs)) where
    records : rs' ≡ map entry_record es ++ entry_record new ∷ map entry_record fs
    records =
        r
        ∙ (λ j. set (records_split h es old fs whole j) i (Group (sym g.long j) (sym g.many j + 1)))
        ∙ set_at (map entry_record es) (entry_record old) (map entry_record fs) _ i (length-map es entry_record ∙ length-take-le i l (omega (arith, slice_get_within l i old g.stands)))
        ∙ ap (λ j. map entry_record es ++ Group (length t) j ∷ map entry_record fs) (sym (length-append ms (x ∷ [])))

    box_rows : bs' ≡ box_records es ++ (map mailbox_record (ms ++ x ∷ []) ++ box_records fs)
    box_rows =
        let place : p ≡ length (box_records es) + length (map mailbox_record ms) =
        omega (arith, p-is, ap mailboxes (nth_front l i old g.stands), sum_by_push boxes_in es old, length-map (all_boxes es) mailbox_record, length_all_boxes es, length-map ms mailbox_record) in
        b
        ∙ (λ j. take (place j) (boxes_split h es old fs whole j) ++ ((mailbox_record x ∷ []) ++ drop (place j) (boxes_split h es old fs whole j)))
        ∙ insert_mid (box_records es) (map mailbox_record ms) (box_records fs) (mailbox_record x ∷ []) _ _ refl refl
        ∙ ap (λ z. box_records es ++ (z ++ box_records fs)) (sym (map-append mailbox_record ms (x ∷ [])))

    chars : cs' ≡ row es ++ (entry_row new ++ row fs)
    chars =
        let place : q ≡ length (row es) + length (entry_row old) =
        omega (arith, q-is, ap characters (nth_front l i old g.stands), sum_by_push characters_in es old, length_row es, length_entry_row old) in
        c
        ∙ (λ j. take (place j) (chars_split h es old fs whole j) ++ (mailbox_row x ++ drop (place j) (chars_split h es old fs whole j)))
        ∙ insert_mid (row es) (entry_row old) (row fs) (mailbox_row x) _ _ refl refl
        ∙ ap (λ z. row es ++ (z ++ row fs)) (append_assoc t (flat_map mailbox_row ms) (mailbox_row x) ∙ ap (λ z. t ++ z) (sym (joined_push mailbox_row ms x)))

    pub joined : Stands (joined_at l i x) rs' bs' cs'
    joined = subst (λ (k : List Entry). Stands k rs' bs' cs') (sym joined_is) (entry_replaced h es old fs whole new records box_rows chars)
