-- What lies ahead of a walk: k members of an open group, and the entries behind it.
--     Ahead, view                     the mailboxes and the entries that the records and the characters stand for
--     reopened_laid, reopened_ahead   records and characters that stand for given ones
--     Taken, taken                    the next member, and what is ahead behind it
--     Idle, idle                      the same where no group is open
--     loose_first, group_first        the next entry, by its record
-- Assumes nothing.
use Rattle.std.proofs.Common.{◌≡◌, ℕ, ◌+◌, ◌<◌, ◌≤◌, List, [], ◌∷◌, ◌++◌, map, length, sym, refl, ap, ◌∙◌, append_assoc, arith}
use Rattle.std.specs.List.{flat_map}
use Rattle.std.proofs.lemmas.List.{nil_from_length}
use Rattle.addresses.specs.Mailboxes.{Mailbox, Entry, loose, group}
use Rattle.store.specs.Layout.{mailbox_row, all_boxes, row, mailbox_record, entry_record, opened, dealt, Laid}
use Rattle.addresses.specs.Looks.{mailbox_seen}
use Rattle.store.specs.Walks.{walked, left_of}
use Rattle.store.specs.declared.records.MailboxRecord.{MailboxRecord}
use Rattle.store.specs.declared.records.EntryRecord.{EntryRecord}
use Rattle.store.specs.declared.records.EntryRecord.TheVariants.{Loose, Group}
use Rattle.store.proofs.Laying.{Stands, settled, laid}

pub record Ahead (k : ℕ) (rs : List EntryRecord) (bs : List MailboxRecord) (cs : List ℕ) : Type 0 where
  pub box_row : List Mailbox
  pub behind : List Entry
  pub is : dealt (opened k rs) bs cs ≡ group [] box_row ∷ behind
  pub many : length box_row ≡ k
  pub records : rs ≡ map entry_record behind
  pub box_records : bs ≡ map mailbox_record (box_row ++ all_boxes behind)
  pub chars : cs ≡ flat_map mailbox_row box_row ++ row behind

module _ {k : ℕ} {rs : List EntryRecord} {bs : List MailboxRecord} {cs : List ℕ} where
  by_list : (l : List Entry) → dealt (opened k rs) bs cs ≡ l → opened k rs ≡ map entry_record l → bs ≡ map mailbox_record (all_boxes l) → cs ≡ row l → Ahead k rs bs cs
  by_list [] is r b c = cc
  by_list (loose m ∷ l) is r b c = cc
  by_list (group (x ∷ t) ms ∷ l) is r b c = cc
  by_list (group [] ms ∷ l) is r b c = record { box_row = ms; behind = l; is = is; many = cc; records = cc; box_records = b; chars = c }

  pub view : Laid (opened k rs) bs cs → Ahead k rs bs cs
  view h = by_list (dealt (opened k rs) bs cs) refl h.0 h.1 h.2

  module _ (ms : List Mailbox) (l : List Entry) (r : rs ≡ map entry_record l) (b : bs ≡ map mailbox_record (ms ++ all_boxes l)) (c : cs ≡ flat_map mailbox_row ms ++ row l) (n : length ms ≡ k) where
    reopened : Stands (group [] ms ∷ l) (opened k rs) bs cs
    reopened = record { records = λ i. opened (sym n i) (r i); box_records = b; chars = c }

    pub reopened_laid : Laid (opened k rs) bs cs
    reopened_laid = laid reopened

    pub reopened_ahead : left_of (dealt (opened k rs) bs cs) ≡ map mailbox_seen ms ++ walked l
    reopened_ahead = ap left_of (settled reopened)

-- ── the next member ──

pub record Taken (k : ℕ) (rs : List EntryRecord) (bs : List MailboxRecord) (cs : List ℕ) : Type 0 where
  pub one : Mailbox
  pub still : List Mailbox
  pub behind : List Entry
  pub shows : left_of (dealt (opened k rs) bs cs) ≡ mailbox_seen one ∷ (map mailbox_seen still ++ walked behind)
  pub many : length still + 1 ≡ k
  pub records : rs ≡ map entry_record behind
  pub box_records : bs ≡ mailbox_record one ∷ map mailbox_record (still ++ all_boxes behind)
  pub chars : cs ≡ mailbox_row one ++ (flat_map mailbox_row still ++ row behind)

module _ {k : ℕ} {rs : List EntryRecord} {bs : List MailboxRecord} {cs : List ℕ} where
  by_members : (ms : List Mailbox) (l : List Entry) → dealt (opened k rs) bs cs ≡ group [] ms ∷ l → length ms ≡ k → rs ≡ map entry_record l → bs ≡ map mailbox_record (ms ++ all_boxes l) → cs ≡ flat_map mailbox_row ms ++ row l → 0 < k → Taken k rs bs cs
  by_members [] l is n r b c lt = absurd (omega arith)
  by_members (m ∷ ms) l is n r b c lt =
      record { one = m; still = ms; behind = l; shows = ap left_of is; many = omega arith; records = r; box_records = b; chars = c ∙ append_assoc (mailbox_row m) (flat_map mailbox_row ms) (row l) }

  pub taken : Laid (opened k rs) bs cs → 0 < k → Taken k rs bs cs
  taken h lt = let v = view h in by_members v.box_row v.behind v.is v.many v.records v.box_records v.chars lt

-- ── the next entry ──

pub record Idle (k : ℕ) (rs : List EntryRecord) (bs : List MailboxRecord) (cs : List ℕ) : Type 0 where
  pub behind : List Entry
  pub shows : left_of (dealt (opened k rs) bs cs) ≡ walked behind
  pub records : rs ≡ map entry_record behind
  pub box_records : bs ≡ map mailbox_record (all_boxes behind)
  pub chars : cs ≡ row behind

pub idle : {k : ℕ} {rs : List EntryRecord} {bs : List MailboxRecord} {cs : List ℕ} → Laid (opened k rs) bs cs → k ≤ 0 → Idle k rs bs cs
idle h zero =
    let v = view h in
    let none : v.box_row ≡ [] = nil_from_length v.box_row (omega (arith, v.many)) in
    record {
      behind = v.behind;
      shows = ap left_of v.is ∙ ap (λ ms. map mailbox_seen ms ++ walked v.behind) none;
      records = v.records;
      box_records = v.box_records ∙ ap (λ ms. map mailbox_record (ms ++ all_boxes v.behind)) none;
      chars = v.chars ∙ ap (λ ms. flat_map mailbox_row ms ++ row v.behind) none;
    }

pub loose_first : (r : EntryRecord) (rs : List EntryRecord) (l : List Entry) → r ∷ rs ≡ map entry_record l → r ≡ Loose
    → (m : Mailbox) × (fs : List Entry) × (l ≡ loose m ∷ fs) × (rs ≡ map entry_record fs)
loose_first r rs [] e is = cc
loose_first r rs (loose m ∷ fs) e is = (m, fs, refl, cc)
loose_first r rs (group t ms ∷ fs) e is = cc

pub group_first : (r : EntryRecord) (rs : List EntryRecord) (l : List Entry) (n k : ℕ) → r ∷ rs ≡ map entry_record l → r ≡ Group n k
    → (t : List ℕ) × (ms : List Mailbox) × (fs : List Entry) × (l ≡ group t ms ∷ fs) × (length t ≡ n) × (length ms ≡ k) × (rs ≡ map entry_record fs)
group_first r rs [] n k e is = cc
group_first r rs (loose m ∷ fs) n k e is = cc
group_first r rs (group t ms ∷ fs) n k e is = (t, ms, fs, refl, cc, cc, cc)
