-- A mailbox of a list, among the others. Its entry e has the mailboxes ms before it and ns behind it, and the list has the
-- entries es before e and fs behind it.
--     own_before                      the records of those before it in the entry
--     record_inside, record_at        its record lies at p
--     chars_inside, mailbox_there     its characters begin at q
--     without_record, without_chars   the records and the characters without it
-- Assumes nothing.
use Rattle.std.proofs.Common.{◌≡◌, ℕ, suc, ◌+◌, ◌<◌, ◌≤◌, List, [], ◌∷◌, ◌++◌, map, length, get_or, take, drop, sum_by, sym, ap, ◌∙◌, append_assoc, arith, length-append}
use Rattle.std.specs.List.{flat_map, remove}
use Rattle.std.proofs.lemmas.Grind.{flat_map-append}
use Rattle.std.proofs.lemmas.List.{length-map, map-append, take_at, drop_at, get_or_at}
use Rattle.addresses.specs.Mailboxes.{Mailbox, Entry, mailbox_length, mailboxes, characters}
use Rattle.store.specs.Layout.{mailbox_row, title, boxes, all_boxes, row, mailbox_record, mailbox_in, dealt, Laid}
use Rattle.store.specs.declared.records.MailboxRecord.{MailboxRecord}
use Rattle.store.specs.declared.records.EntryRecord.{EntryRecord}
use Rattle.store.proofs.Laying.{length_joined, length_mailbox_row, length_all_boxes, length_row, mailbox_in_is}
use Rattle.store.proofs.Replacing.{box_records, boxes_split, chars_split}

-- a row in three parts, without the second
pub without_mid : {X : Type 0} (a b c : List X) (m n : ℕ) → length a ≡ m → length b + m ≡ n → take m (a ++ (b ++ c)) ++ drop n (a ++ (b ++ c)) ≡ a ++ c
without_mid a b c m n am bn =
    let long : length (a ++ b) ≡ n = omega (arith, length-append a b) in
    λ i. take_at a (b ++ c) m am i ++ (ap (drop n) (sym (append_assoc a b c)) ∙ drop_at (a ++ b) c n long) i

module _ {rs : List EntryRecord} {bs : List MailboxRecord} {cs : List ℕ} (h : Laid rs bs cs) (es : List Entry) (e : Entry) (fs : List Entry) (w : dealt rs bs cs ≡ es ++ e ∷ fs) (ms : List Mailbox) (m : Mailbox) (ns : List Mailbox) (own : boxes e ≡ ms ++ m ∷ ns) where
  abbrev records_before : List MailboxRecord
  records_before = box_records es ++ map mailbox_record ms

  abbrev records_behind : List MailboxRecord
  records_behind = map mailbox_record ns ++ box_records fs

  abbrev chars_before : List ℕ
  chars_before = row es ++ (title e ++ flat_map mailbox_row ms)

  abbrev chars_behind : List ℕ
  chars_behind = flat_map mailbox_row ns ++ row fs

  records_parts : bs ≡ records_before ++ mailbox_record m ∷ records_behind
  records_parts =
      boxes_split h es e fs w
      ∙ ap (λ x. box_records es ++ (x ++ box_records fs)) (ap (map mailbox_record) own ∙ map-append mailbox_record ms (m ∷ ns))
      ∙ simp append_assoc

  chars_parts : cs ≡ chars_before ++ (mailbox_row m ++ chars_behind)
  chars_parts =
      chars_split h es e fs w
      ∙ ap (λ x. row es ++ ((title e ++ x) ++ row fs)) (ap (flat_map mailbox_row) own ∙ flat_map-append mailbox_row ms (m ∷ ns))
      ∙ simp append_assoc

  -- the records of those before it in the entry
  pub own_before : (n p : ℕ) → length ms ≡ n → p ≡ mailboxes es → take n (drop p bs) ≡ map mailbox_record ms
  own_before n p n-is p-is =
      ap (λ l. take n (drop p l)) (records_parts ∙ append_assoc (box_records es) (map mailbox_record ms) (mailbox_record m ∷ records_behind))
      ∙ ap (take n) (drop_at (box_records es) (map mailbox_record ms ++ mailbox_record m ∷ records_behind) p (omega (arith, length-map (all_boxes es) mailbox_record, length_all_boxes es)))
      ∙ take_at (map mailbox_record ms) (mailbox_record m ∷ records_behind) n (length-map ms mailbox_record ∙ n-is)

  module _ (p q : ℕ) (p-is : p ≡ mailboxes es + length ms) (q-is : q ≡ characters es + (length (title e) + sum_by mailbox_length ms)) where
    records_long : length records_before ≡ p
    records_long = omega (arith, length-append (box_records es) (map mailbox_record ms), length-map (all_boxes es) mailbox_record, length_all_boxes es, length-map ms mailbox_record)

    chars_long : length chars_before ≡ q
    chars_long =
        omega (arith, length-append (row es) (title e ++ flat_map mailbox_row ms), length-append (title e) (flat_map mailbox_row ms), length_row es, length_joined mailbox_row mailbox_length length_mailbox_row ms)

    pub record_at : (d : MailboxRecord) → get_or bs p d ≡ mailbox_record m
    record_at d = ap (λ l. get_or l p d) records_parts ∙ get_or_at records_before (mailbox_record m) records_behind d p records_long

    pub record_inside : p < length bs
    record_inside = omega (arith, ap length records_parts, length-append records_before (mailbox_record m ∷ records_behind), records_long)

    pub chars_inside : q + mailbox_length m ≤ length cs
    chars_inside =
        omega (arith, ap length chars_parts, length-append chars_before (mailbox_row m ++ chars_behind), length-append (mailbox_row m) chars_behind, chars_long, length_mailbox_row m)

    pub mailbox_there : (r : MailboxRecord) → r ≡ mailbox_record m → mailbox_in r (drop q cs) ≡ m
    mailbox_there r is =
        (λ i. mailbox_in (is i) ((ap (drop q) chars_parts ∙ drop_at chars_before (mailbox_row m ++ chars_behind) q chars_long) i)) ∙ mailbox_in_is m chars_behind

    pub without_record : remove bs p ≡ records_before ++ records_behind
    without_record =
        ap (λ l. remove l p) records_parts
        ∙ without_mid records_before (mailbox_record m ∷ []) records_behind p (suc p) records_long (omega arith)

    pub without_chars : (n : ℕ) → n ≡ q + mailbox_length m → take q cs ++ drop n cs ≡ chars_before ++ chars_behind
    without_chars n is =
        ap (λ l. take q l ++ drop n l) chars_parts
        ∙ without_mid chars_before (mailbox_row m) chars_behind q n chars_long (omega (arith, length_mailbox_row m))
