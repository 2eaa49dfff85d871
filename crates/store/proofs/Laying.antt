-- The records and the characters of a list stand for its entries, and for no others.
--     joined_push                                what `flat_map` makes of a row with one more element
--     length_joined, sum_by_map                  its length, and a sum over the records of a row
--     length_*, *_is                             what the words of the layout measure
--     dealt_back                                 what a list is laid out as is dealt out as the list again
--     Stands, settled, laid                      records and characters that a list is laid out as
-- Assumes nothing.
use Rattle.std.proofs.Common.{◌≡◌, ℕ, ◌+◌, List, [], ◌∷◌, ◌++◌, map, length, take, drop, Some, None, sum_by, Option, sym, refl, ap, ◌∙◌, append_assoc, append-nil, arith, length-append}
use Rattle.std.specs.Option.{option_map}
use Rattle.std.specs.List.{flat_map}
use Rattle.std.proofs.lemmas.Grind.{flat_map-append}
use Rattle.std.proofs.lemmas.List.{take_at, drop_at, length-map, map-append}
use Rattle.std.proofs.lemmas.List.Concat.{length-flat_map}
use Rattle.std.proofs.lemmas.List.Sums.{sum_by-cons}
use Rattle.addresses.specs.Mailboxes.{Mailbox, mailbox, Entry, loose, group, name_length, mailbox_length, mailboxes_in as boxes_in, groups_in, characters_in, mailboxes, characters}
use Rattle.store.specs.Layout.{name_row, mailbox_row, boxes, entry_row, all_boxes, row, mailbox_record, entry_record, name_size, record_size, title_size, box_count, group_count, name_in, mailbox_in, mailboxes_in, entry_in, dealt, Laid}
use Rattle.store.specs.declared.records.MailboxRecord.{MailboxRecord}
use Rattle.store.specs.declared.records.EntryRecord.{EntryRecord}

-- ── rows of rows ──

module _ {X A : Type 0} (f : X → List A) where
  pub joined_push : (xs : List X) (x : X) → flat_map f (xs ++ x ∷ []) ≡ flat_map f xs ++ f x
  joined_push xs x = flat_map-append f xs (x ∷ []) ∙ ap (λ l. flat_map f xs ++ l) (append-nil (f x))

  pub length_joined : (g : X → ℕ) → ((x : X) → length (f x) ≡ g x) → (xs : List X) → length (flat_map f xs) ≡ sum_by g xs
  length_joined g e xs = length-flat_map f xs ∙ (λ i. sum_by (λ x. e x i) xs)

pub sum_by_map : {X Y : Type 0} (f : X → Y) (g : Y → ℕ) (h : X → ℕ) → ((x : X) → g (f x) ≡ h x) → (xs : List X) → sum_by g (map f xs) ≡ sum_by h xs
sum_by_map f g h e [] = refl
sum_by_map f g h e (x ∷ xs) = sum_by-cons g (f x) (map f xs) ∙ (λ i. e x i + sum_by_map f g h e xs i) ∙ sym (sum_by-cons h x xs)

-- ── what is measured ──

pub length_name_row : (n : Option (List ℕ)) → length (name_row n) ≡ name_length n
length_name_row None = refl
length_name_row (Some n) = refl

pub length_mailbox_row : (m : Mailbox) → length (mailbox_row m) ≡ mailbox_length m
length_mailbox_row (mailbox n a) = length-append (name_row n) a ∙ ap (λ k. k + length a) (length_name_row n)

pub length_entry_row : (e : Entry) → length (entry_row e) ≡ characters_in e
length_entry_row (loose m) = ap length (append-nil (mailbox_row m)) ∙ length_mailbox_row m
length_entry_row (group n ms) = length-append n (flat_map mailbox_row ms) ∙ ap (λ k. length n + k) (length_joined mailbox_row mailbox_length length_mailbox_row ms)

pub length_boxes : (e : Entry) → length (boxes e) ≡ boxes_in e
length_boxes (loose m) = refl
length_boxes (group n ms) = refl

pub length_all_boxes : (l : List Entry) → length (all_boxes l) ≡ mailboxes l
length_all_boxes = length_joined boxes boxes_in length_boxes

pub length_row : (l : List Entry) → length (row l) ≡ characters l
length_row = length_joined entry_row characters_in length_entry_row

pub name_size_is : (n : Option (List ℕ)) → name_size (option_map length n) ≡ name_length n
name_size_is None = refl
name_size_is (Some n) = refl

pub size_is : (m : Mailbox) → record_size (mailbox_record m) ≡ mailbox_length m
size_is (mailbox n a) = ap (λ k. k + length a) (name_size_is n)

pub sizes_are : (ms : List Mailbox) → sum_by record_size (map mailbox_record ms) ≡ sum_by mailbox_length ms
sizes_are = sum_by_map mailbox_record record_size mailbox_length size_is

pub box_count_is : (e : Entry) → box_count (entry_record e) ≡ boxes_in e
box_count_is (loose m) = refl
box_count_is (group n ms) = refl

pub group_count_is : (e : Entry) → group_count (entry_record e) ≡ groups_in e
group_count_is (loose m) = refl
group_count_is (group n ms) = refl

pub entry_size_is : (e : Entry) → title_size (entry_record e) + sum_by record_size (map mailbox_record (boxes e)) ≡ characters_in e
entry_size_is (loose m) = omega (arith, size_is m)
entry_size_is (group n ms) = ap (λ k. length n + k) (sizes_are ms)

-- ── dealing out ──

name_in_is : (n : Option (List ℕ)) (cs : List ℕ) → name_in (option_map length n) (name_row n ++ cs) ≡ n
name_in_is None cs = refl
name_in_is (Some n) cs = ap (λ l. Some l) (take_at n cs (length n) refl)

pub mailbox_in_is : (m : Mailbox) (cs : List ℕ) → mailbox_in (mailbox_record m) (mailbox_row m ++ cs) ≡ m
mailbox_in_is (mailbox n a) cs =
    let same = append_assoc (name_row n) a cs in
    let address : take (length a) (drop (name_size (option_map length n)) ((name_row n ++ a) ++ cs)) ≡ a =
    ap (λ l. take (length a) (drop (name_size (option_map length n)) l)) same
    ∙ ap (take (length a)) (drop_at (name_row n) (a ++ cs) _ (length_name_row n ∙ sym (name_size_is n)))
    ∙ take_at a cs (length a) refl in
    λ i. mailbox ((ap (name_in (option_map length n)) same ∙ name_in_is n (a ++ cs)) i) (address i)

pub mailboxes_in_are : (ms : List Mailbox) (cs : List ℕ) → mailboxes_in (map mailbox_record ms) (flat_map mailbox_row ms ++ cs) ≡ ms
mailboxes_in_are [] cs = refl
mailboxes_in_are (m ∷ ms) cs =
    let same = append_assoc (mailbox_row m) (flat_map mailbox_row ms) cs in
    λ i. (ap (mailbox_in (mailbox_record m)) same ∙ mailbox_in_is m (flat_map mailbox_row ms ++ cs)) i
    ∷ (ap (λ l. mailboxes_in (map mailbox_record ms) (drop (record_size (mailbox_record m)) l)) same
    ∙ ap (mailboxes_in (map mailbox_record ms)) (drop_at (mailbox_row m) (flat_map mailbox_row ms ++ cs) _ (length_mailbox_row m ∙ sym (size_is m)))
    ∙ mailboxes_in_are ms cs) i

pub entry_in_is : (e : Entry) (cs : List ℕ) → entry_in (entry_record e) (map mailbox_record (boxes e)) (entry_row e ++ cs) ≡ e
entry_in_is (loose m) cs = ap (λ l. loose (mailbox_in (mailbox_record m) (l ++ cs))) (append-nil (mailbox_row m)) ∙ ap (λ x. loose x) (mailbox_in_is m cs)
entry_in_is (group n ms) cs =
    let same = append_assoc n (flat_map mailbox_row ms) cs in
    λ i. group ((ap (take (length n)) same ∙ take_at n (flat_map mailbox_row ms ++ cs) _ refl) i)
    ((ap (λ l. mailboxes_in (map mailbox_record ms) (drop (length n) l)) same
    ∙ ap (mailboxes_in (map mailbox_record ms)) (drop_at n (flat_map mailbox_row ms ++ cs) _ refl)
    ∙ mailboxes_in_are ms cs) i)

pub dealt_back : (l : List Entry) → dealt (map entry_record l) (map mailbox_record (all_boxes l)) (row l) ≡ l
unfolding dealt
dealt_back [] = refl
dealt_back (e ∷ l) =
    let split = map-append mailbox_record (boxes e) (all_boxes l) in
    let long : length (map mailbox_record (boxes e)) ≡ box_count (entry_record e) =
    length-map (boxes e) mailbox_record ∙ length_boxes e ∙ sym (box_count_is e) in
    let front : take (box_count (entry_record e)) (map mailbox_record (boxes e ++ all_boxes l)) ≡ map mailbox_record (boxes e) =
    ap (take (box_count (entry_record e))) split ∙ take_at (map mailbox_record (boxes e)) (map mailbox_record (all_boxes l)) _ long in
    let back : drop (box_count (entry_record e)) (map mailbox_record (boxes e ++ all_boxes l)) ≡ map mailbox_record (all_boxes l) =
    ap (drop (box_count (entry_record e))) split ∙ drop_at (map mailbox_record (boxes e)) (map mailbox_record (all_boxes l)) _ long in
    λ i. (ap (λ own. entry_in (entry_record e) own (entry_row e ++ row l)) front ∙ entry_in_is e (row l)) i
    ∷ ((λ j. dealt (map entry_record l) (back j) (drop (title_size (entry_record e) + sum_by record_size (front j)) (entry_row e ++ row l)))
    ∙ ap (dealt (map entry_record l) (map mailbox_record (all_boxes l))) (drop_at (entry_row e) (row l) _ (length_entry_row e ∙ sym (entry_size_is e)))
    ∙ dealt_back l) i

-- records and characters that stand for the list l
pub record Stands (l : List Entry) (rs : List EntryRecord) (bs : List MailboxRecord) (cs : List ℕ) : Type 0 where
  pub records : rs ≡ map entry_record l
  pub box_records : bs ≡ map mailbox_record (all_boxes l)
  pub chars : cs ≡ row l

module _ {l : List Entry} {rs : List EntryRecord} {bs : List MailboxRecord} {cs : List ℕ} (s : Stands l rs bs cs) where
  pub settled : dealt rs bs cs ≡ l
  settled = (λ i. dealt (s.records i) (s.box_records i) (s.chars i)) ∙ dealt_back l

  pub laid : Laid rs bs cs
  laid =
      let back = sym settled in
      (s.records ∙ ap (map entry_record) back, s.box_records ∙ ap (λ k. map mailbox_record (all_boxes k)) back, s.chars ∙ ap row back)
