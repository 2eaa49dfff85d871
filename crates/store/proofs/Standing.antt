-- What stands at a place of a row.
--     nth_whole, nth_front, nth_set    the row around it, up to it, and with another in its place
--     no_group, an_entry, a_loose, GroupThere, a_group    what the record of an entry tells of the entry
--     MemberThere, a_member, no_member, member_past, member_within    and of its members
-- Assumes nothing.
use Rattle.std.proofs.Common.{◌≡◌, ℕ, zero, suc, ◌+◌, ◌<◌, ◌≤◌, false, List, [], ◌∷◌, ◌++◌, length, get_or, take, drop, set, Some, None, Option, refl, ap, ◌∙◌, arith}
use Rattle.std.specs.Option.{option_map}
use Rattle.std.specs.List.{slice_get}
use Rattle.std.proofs.lemmas.List.{take_more, set_split}
use Rattle.std.proofs.lemmas.Option.{slice_get-get_or, slice_get_past, slice_get_within}
use Rattle.addresses.proofs.Replacing.{nth_split}
use Rattle.addresses.specs.Mailboxes.{Mailbox, mailbox, Entry, loose, group}
use Rattle.store.specs.Edits.{some_group, some_member}
use Rattle.store.specs.Layout.{entry_record, group_of}
use Rattle.store.specs.declared.records.EntryRecord.{EntryRecord}
use Rattle.store.specs.declared.records.EntryRecord.TheVariants.{Loose}

module _ {X : Type 0} where
  pub nth_whole : (l : List X) (i : ℕ) (x : X) → slice_get l i ≡ Some x → l ≡ take i l ++ x ∷ drop (suc i) l
  nth_whole l i x p = (nth_split l i x p).1

  module _ (l : List X) (i : ℕ) (x : X) (p : slice_get l i ≡ Some x) where
    pub nth_front : take (i + 1) l ≡ take i l ++ x ∷ []
    nth_front =
        let there = slice_get-get_or l i x (slice_get_within l i x p) in
        let same : get_or l i x ≡ x = cc in
        take_more l i x (slice_get_within l i x p) ∙ ap (λ y. take i l ++ y ∷ []) same

    pub nth_set : (y : X) → set l i y ≡ take i l ++ y ∷ drop (suc i) l
    nth_set y = set_split l i y (slice_get_within l i x p)

-- ── an entry by its record ──

pub no_group : (o : Option Entry) → None ≡ group_of (option_map entry_record o) → some_group o ≡ false
no_group None p = refl
no_group (Some (loose m)) p = refl
no_group (Some (group t ms)) p = cc

pub an_entry : (o : Option Entry) (r : EntryRecord) → option_map entry_record o ≡ Some r → (e : Entry) × (o ≡ Some e) × (entry_record e ≡ r)
an_entry None r p = cc
an_entry (Some e) r p = (e, refl, cc)

pub a_loose : (o : Option Entry) → option_map entry_record o ≡ Some Loose → (m : Mailbox) × (o ≡ Some (loose m))
a_loose None p = cc
a_loose (Some (loose m)) p = (m, refl)
a_loose (Some (group t ms)) p = cc

-- a group whose name has n characters, and which has k members
pub record GroupThere (o : Option Entry) (n k : ℕ) : Type 0 where
  pub title : List ℕ
  pub box_row : List Mailbox
  pub stands : o ≡ Some (group title box_row)
  pub long : length title ≡ n
  pub many : length box_row ≡ k

pub a_group : (o : Option Entry) (n k : ℕ) → Some (n, k) ≡ group_of (option_map entry_record o) → GroupThere o n k
a_group None n k p = cc
a_group (Some (loose m)) n k p = cc
a_group (Some (group t ms)) n k p =
    let both : ◌≡◌ {A = ℕ × ℕ} (length t, length ms) (n, k) = cc in
    record { title = t; box_row = ms; stands = refl; long = ap (λ q. q.0) both; many = ap (λ q. q.1) both }

-- a group with the member j, which is m
pub record MemberThere (o : Option Entry) (j : ℕ) (m : Mailbox) : Type 0 where
  pub title : List ℕ
  pub box_row : List Mailbox
  pub stands : o ≡ Some (group title box_row)
  pub member : slice_get box_row j ≡ Some m

pub a_member : (o : Option Entry) (j : ℕ) (m : Mailbox) → some_member o j ≡ Some m → MemberThere o j m
a_member None j m p = cc
a_member (Some (loose b)) j m p = cc
a_member (Some (group t ms)) j m p = record { title = t; box_row = ms; stands = refl; member = p }

pub no_member : (o : Option Entry) (j : ℕ) → some_group o ≡ false → some_member o j ≡ None
no_member None j p = refl
no_member (Some (loose m)) j p = refl
no_member (Some (group t ms)) j p = cc

module _ {o : Option Entry} {n k : ℕ} (g : GroupThere o n k) (j : ℕ) where
  pub member_past : k ≤ j → some_member o j ≡ None
  member_past le = ap (λ x. some_member x j) g.stands ∙ slice_get_past g.box_row j (omega (arith, g.many))

  abbrev pub member_within : j < k → MemberThere o j (get_or g.box_row j (mailbox None []))
  member_within lt = record {
    title = g.title;
    box_row = g.box_row;
    stands = g.stands;
    member = slice_get-get_or g.box_row j (mailbox None []) (omega (arith, g.many));
  }
