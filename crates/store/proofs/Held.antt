-- What a store's records and characters measure.
--     within_keeps       the limits, by the three sizes of a list
--     keeps_small        what the test of the limits tells
--     *_held             the sizes of the list that records and characters stand for
--     few_records        there is room for its entries
--     kept               what a store keeps of a list within the limits
--     all_ok, all_put    that a list of bounded length takes what it has room for, and what it is then
--     cut_short          a list is no longer when a part is taken out
-- Assumes nothing.
use Rattle.std.proofs.Common.{◌≡◌, ℕ, ◌+◌, ◌≤◌, Result, Bool, true, cond, ◌&&◌, leb, List, [], ◌∷◌, ◌++◌, length, take, drop, sym, ap, ◌∙◌, arith, length-append, length-drop}
use Rattle.std.specs.List.{remove_range}
use Rattle.std.specs.Result.{is_ok, IsOk}
use Rattle.std.proofs.lemmas.List.{length-map, length-take}
use Rattle.std.proofs.lemmas.List.Sums.{sum_by-cons}
use Rattle.std.proofs.lemmas.Bool.{leb-true, le-leb, cond-true, and_parts}
use Rattle.bounded.specs.Room.{fits}
use Rattle.addresses.specs.Mailboxes.{Entry, loose, group, mailboxes_in as boxes_in, groups_in, mailboxes, groups, characters}
use Rattle.addresses.specs.Limits.{within}
use Rattle.store.specs.Layout.{all_boxes, mailbox_record, entry_record, dealt, keeps, Small, Laid, Counted}
use Rattle.store.specs.declared.records.MailboxRecord.{MailboxRecord}
use Rattle.store.specs.declared.records.EntryRecord.{EntryRecord}
use Rattle.store.proofs.Laying.{Stands, settled, laid, length_all_boxes, length_row}

pub within_keeps : (l : List Entry) (m g c : ℕ) → mailboxes l ≡ m → groups l ≡ g → characters l ≡ c → within l ≡ keeps m g c
unfolding within
within_keeps l m g c em eg ec = λ i. keeps (em i) (eg i) (ec i)

pub keeps_small : (m g c : ℕ) → keeps m g c ≡ true → Small m g c
keeps_small m g c e =
    let p = and_parts (leb m 256) (leb g 64 && leb c 8192) e in
    let q = and_parts (leb g 64) (leb c 8192) p.1 in
    (leb-true m 256 p.0, leb-true g 64 q.0, leb-true c 8192 q.1)

-- a loose mailbox is a mailbox, and a group is a group
few_entries : (l : List Entry) → length l ≤ mailboxes l + groups l
few_entries [] = omega arith
few_entries (loose m ∷ l) = omega (arith, few_entries l, sum_by-cons boxes_in (loose m) l, sum_by-cons groups_in (loose m) l)
few_entries (group n ms ∷ l) = omega (arith, few_entries l, sum_by-cons boxes_in (group n ms) l, sum_by-cons groups_in (group n ms) l)

module _ {rs : List EntryRecord} {bs : List MailboxRecord} {cs : List ℕ} (h : Laid rs bs cs) where
  pub entries_held : length (dealt rs bs cs) ≡ length rs
  entries_held = sym (ap length h.0 ∙ length-map (dealt rs bs cs) entry_record)

  pub mailboxes_held : mailboxes (dealt rs bs cs) ≡ length bs
  mailboxes_held = sym (ap length h.1 ∙ length-map (all_boxes (dealt rs bs cs)) mailbox_record ∙ length_all_boxes (dealt rs bs cs))

  pub characters_held : characters (dealt rs bs cs) ≡ length cs
  characters_held = sym (ap length h.2 ∙ length_row (dealt rs bs cs))

  pub few_records : length rs ≤ length bs + groups (dealt rs bs cs)
  few_records = omega (arith, few_entries (dealt rs bs cs), entries_held, mailboxes_held)

-- a list that keeps the limits, with as many groups as are counted, is what a store may hold
pub kept : {l : List Entry} {rs : List EntryRecord} {bs : List MailboxRecord} {cs : List ℕ} {n : ℕ} → Stands l rs bs cs → n ≡ groups l → true ≡ within l
    → record { laid : Laid rs bs cs; counted : Counted rs bs cs n; small : Small (length bs) n (length cs) }
kept {l} {rs} {bs} {cs} {n} s groups-is fits =
    let h = laid s in
    let counted : n ≡ groups (dealt rs bs cs) = groups-is ∙ sym (ap groups (settled s)) in
    record {
      laid = h;
      counted = counted;
      small = keeps_small _ _ _ (sym (within_keeps (dealt rs bs cs) _ _ _ (mailboxes_held h) (sym counted) (characters_held h)) ∙ ap within (settled s) ∙ sym fits);
    }

pub all_ok : {X T E : Type 0} (n : ℕ) (xs more : List X) (r : Result T E) → is_ok r ≡ fits n (xs ++ more) → length xs + length more ≤ n → IsOk r
all_ok n xs more r room h = room ∙ le-leb _ n (omega (arith, length-append xs more))

pub all_put : {X : Type 0} (n : ℕ) (xs more new : List X) (ok : Bool) → ok ≡ fits n (xs ++ more) → new ≡ cond ok (xs ++ more) xs → length xs + length more ≤ n → new ≡ xs ++ more
all_put n xs more new ok room after h = after ∙ cond-true ok _ _ (room ∙ le-leb _ n (omega (arith, length-append xs more)))

pub cut_short : {X : Type 0} (xs : List X) (i j : ℕ) → i ≤ j → length (remove_range xs i j) ≤ length xs
cut_short xs i j h = omega (arith, length-append (take i xs) (drop j xs), length-take i xs, length-drop j xs)
