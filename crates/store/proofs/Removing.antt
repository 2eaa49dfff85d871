-- A list without one of its entries, and without one member of a group.
--     removed, removed_groups    the entry i: what the list is laid out as, and its groups
--     parted, parted_groups      the member j of the entry i
-- Assumes nothing.
use Rattle.std.proofs.Common.{◌≡◌, ℕ, suc, ◌+◌, ◌-◌, List, ◌∷◌, ◌++◌, map, length, take, drop, set, Some, sym, refl, ap, subst, ◌∙◌, append_assoc, arith}
use Rattle.std.specs.Option.{option_map}
use Rattle.std.specs.List.{remove, slice_get}
use Rattle.std.proofs.lemmas.List.Edits.{length-remove}
use Rattle.std.proofs.lemmas.Grind.{flat_map-append}
use Rattle.std.proofs.lemmas.List.{length-map, map-append, take-map, drop-map, set_at, length-take-le}
use Rattle.std.proofs.lemmas.List.Sums.{sum_by-append, sum_by_push}
use Rattle.std.proofs.lemmas.Option.{slice_get_within}
use Rattle.addresses.specs.Mailboxes.{Mailbox, Entry, group, mailbox_length, mailboxes_in as boxes_in, groups_in, characters_in, mailboxes, groups, characters}
use Rattle.store.specs.Edits.{without_member, replaced, parted_at}
use Rattle.store.specs.Places.{upto}
use Rattle.store.specs.Layout.{mailbox_row, boxes, entry_row, all_boxes, row, mailbox_record, entry_record, dealt, Laid}
use Rattle.store.specs.declared.records.MailboxRecord.{MailboxRecord}
use Rattle.store.specs.declared.records.EntryRecord.{EntryRecord}
use Rattle.store.specs.declared.records.EntryRecord.TheVariants.{Group}
use Rattle.store.proofs.Laying.{Stands, length_all_boxes, length_boxes, length_row, length_entry_row}
use Rattle.store.proofs.Standing.{nth_whole, nth_front, nth_set, MemberThere}
use Rattle.store.proofs.Replacing.{box_records, groups_mid, records_split, boxes_split, chars_split, replaced as entry_replaced, replaced_groups}
use Rattle.store.proofs.Boxes.{without_mid, without_record, without_chars}
use Rattle.store.proofs.Members.{boxes_upto, chars_upto}

-- ── an entry ──

module _ {rs : List EntryRecord} {bs : List MailboxRecord} {cs : List ℕ} (h : Laid rs bs cs) (i : ℕ) (e : Entry) (there : slice_get (dealt rs bs cs) i ≡ Some e) where
  abbrev l : List Entry
  l = dealt rs bs cs

  abbrev es : List Entry
  es = take i l

  abbrev fs : List Entry
  fs = drop (suc i) l

  whole : l ≡ es ++ e ∷ fs
  whole = nth_whole l i e there

  pub removed_groups : groups (remove l i) + groups_in e ≡ groups l
  removed_groups = omega (arith, sum_by-append groups_in es fs, ap groups whole, groups_mid es e fs)

  -- its records and characters begin behind b and q, and end at b' and q'
  module _ {rs' : List EntryRecord} {bs' : List MailboxRecord} {cs' : List ℕ} {b b' q q' : ℕ}
      (b-is : b ≡ mailboxes es) (b'-is : b' ≡ mailboxes (take (i + 1) l)) (q-is : q ≡ characters es) (q'-is : q' ≡ characters (take (i + 1) l))
      (r : rs' ≡ remove rs i) (bx : bs' ≡ take b bs ++ drop b' bs) (cx : cs' ≡ take q cs ++ drop q' cs) where
    records : rs' ≡ map entry_record (remove l i)
    records =
        r
        ∙ ap (λ z. remove z i) h.0
        ∙ (λ j. take-map entry_record i l j ++ drop-map entry_record (suc i) l j)
        ∙ sym (map-append entry_record es fs)

    box_rows : bs' ≡ box_records (remove l i)
    box_rows =
        let front : length (box_records es) ≡ b = omega (arith, length-map (all_boxes es) mailbox_record, length_all_boxes es) in
        let mid : length (map mailbox_record (boxes e)) + b ≡ b' =
        omega (arith, length-map (boxes e) mailbox_record, length_boxes e, ap mailboxes (nth_front l i e there), sum_by_push boxes_in es e) in
        bx
        ∙ ap (λ z. take b z ++ drop b' z) (boxes_split h es e fs whole)
        ∙ without_mid (box_records es) (map mailbox_record (boxes e)) (box_records fs) b b' front mid
        ∙ sym (map-append mailbox_record (all_boxes es) (all_boxes fs))
        ∙ ap (map mailbox_record) (sym (flat_map-append boxes es fs))

    chars : cs' ≡ row (remove l i)
    chars =
        let front : length (row es) ≡ q = omega (arith, length_row es) in
        let mid : length (entry_row e) + q ≡ q' = omega (arith, length_entry_row e, ap characters (nth_front l i e there), sum_by_push characters_in es e) in
        cx
        ∙ ap (λ z. take q z ++ drop q' z) (chars_split h es e fs whole)
        ∙ without_mid (row es) (entry_row e) (row fs) q q' front mid
        ∙ sym (flat_map-append entry_row es fs)

    pub removed : Stands (remove l i) rs' bs' cs'
    removed = record { records = records; box_records = box_rows; chars = chars }

-- ── a member ──

module _ {rs : List EntryRecord} {bs : List MailboxRecord} {cs : List ℕ} (h : Laid rs bs cs) (i j : ℕ) {m : Mailbox} (g : MemberThere (slice_get (dealt rs bs cs) i) j m) where
  abbrev k : List Entry
  k = dealt rs bs cs

  abbrev t : List ℕ
  t = g.title

  abbrev ms : List Mailbox
  ms = g.box_row

  abbrev old : Entry
  old = group t ms

  abbrev new : Entry
  new = group t (remove ms j)

  around : k ≡ take i k ++ old ∷ drop (suc i) k
  around = nth_whole k i old g.stands

  parted_is : parted_at k i j ≡ take i k ++ new ∷ drop (suc i) k
  parted_is = ap (λ o. replaced k i (option_map (λ e. without_member e j) o)) g.stands ∙ nth_set k i old g.stands new

  pub parted_groups : groups (parted_at k i j) ≡ groups k
  parted_groups = ap groups parted_is ∙ replaced_groups h (take i k) old (drop (suc i) k) around new refl

  -- its record is at p, and its characters begin at q and end at q'
  module _ {rs' : List EntryRecord} {bs' : List MailboxRecord} {cs' : List ℕ} {p q q' : ℕ}
      (p-is : p ≡ mailboxes (upto k i j)) (q-is : q ≡ characters (upto k i j)) (q'-is : q' ≡ q + mailbox_length m)
      (r : rs' ≡ set rs i (Group (length t) (length ms - 1))) (bx : bs' ≡ remove bs p) (cx : cs' ≡ take q cs ++ drop q' cs) where
    member_records : rs' ≡ map entry_record (take i k) ++ entry_record new ∷ map entry_record (drop (suc i) k)
    member_records =
        let one_less : length ms - 1 ≡ length (remove ms j) = omega (arith, length-remove ms j (slice_get_within ms j m g.member)) in
        r
        ∙ (λ z. set (records_split h (take i k) old (drop (suc i) k) around z) i (Group (length t) (one_less z)))
        ∙ set_at (map entry_record (take i k)) (entry_record old) (map entry_record (drop (suc i) k)) _ i (length-map (take i k) entry_record ∙ length-take-le i k (omega (arith, slice_get_within k i old g.stands)))

    member_boxes : bs' ≡ box_records (take i k) ++ (map mailbox_record (remove ms j) ++ box_records (drop (suc i) k))
    member_boxes =
        bx
        ∙ without_record h (take i k) old (drop (suc i) k) around (take j ms) m (drop (suc j) ms) (nth_whole ms j m g.member) p q (p-is ∙ boxes_upto h i j g) (q-is ∙ chars_upto h i j g)
        ∙ simp (append_assoc, map-append)

    member_chars : cs' ≡ row (take i k) ++ (entry_row new ++ row (drop (suc i) k))
    member_chars =
        cx
        ∙ without_chars h (take i k) old (drop (suc i) k) around (take j ms) m (drop (suc j) ms) (nth_whole ms j m g.member) p q (p-is ∙ boxes_upto h i j g) (q-is ∙ chars_upto h i j g) q' q'-is
        ∙ simp (append_assoc, flat_map-append mailbox_row)

    pub parted : Stands (parted_at k i j) rs' bs' cs'
    parted = subst (λ (z : List Entry). Stands z rs' bs' cs') (sym parted_is) (entry_replaced h (take i k) old (drop (suc i) k) around new member_records member_boxes member_chars)
