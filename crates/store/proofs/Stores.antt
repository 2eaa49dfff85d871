-- The same of a store.
--     stored_within      what a store holds keeps the limits
--     few_entries        its entries are no more than its mailboxes and its groups
--     loose_within, group_within, joined_within    whether its list with one more mailbox, group or member does, by what the store
--                                                  measures
--     told_none, told_group, told_record    what the records tell of an entry
--     group_inside, members_few  a group that is there is inside, and has no more members than the store has mailboxes
-- Assumes nothing.
use Rattle.std.proofs.Common.{◌≡◌, ℕ, ◌+◌, ◌<◌, ◌≤◌, true, false, ◌&&◌, List, [], ◌∷◌, ◌++◌, length, take, Some, None, sym, ap, ◌∙◌, add-zero, arith}
use Rattle.std.specs.Option.{option_map}
use Rattle.std.specs.List.{slice_get}
use Rattle.std.proofs.lemmas.Option.{slice_get-map, slice_get_within}
use Rattle.std.proofs.lemmas.List.Sums.{sum_by_push}
use Rattle.addresses.specs.Mailboxes.{Mailbox, Entry, loose, group, mailbox_length, mailboxes_in as boxes_in, groups_in, characters_in, mailboxes}
use Rattle.addresses.specs.Limits.{within}
use Rattle.addresses.proofs.Within.{within_true}
use Rattle.store.specs.Edits.{some_group, has_group, joined_at}
use Rattle.store.specs.Layout.{entry_record, group_of, keeps}
use Rattle.store.specs.Stored.{stored}
use Rattle.store.specs.declared.records.EntryRecord.{EntryRecord}
use Rattle.store.specs.declared.store.Store.{Store}
use Rattle.store.proofs.Held.{mailboxes_held, characters_held, few_records}
use Rattle.store.proofs.Standing.{nth_front, no_group, GroupThere, a_group}
use Rattle.store.proofs.Places.{boxes_fit}
use Rattle.store.proofs.Pushing.{pushed_keeps}
use Rattle.store.proofs.Joining.{joined_keeps}

module _ (s : Store) where
  pub stored_within : within (stored s) ≡ true
  stored_within =
      within_true (stored s) (
        omega (arith, mailboxes_held s.laid, s.small.0),
        omega (arith, s.counted, s.small.1),
        omega (arith, characters_held s.laid, s.small.2),
      )

  pub few_entries : length s.entries ≤ length s.rows.mailboxes + s.groups
  few_entries = omega (arith, few_records s.laid, s.counted)

  pushed_within : (e : Entry) → within (stored s ++ e ∷ []) ≡ keeps (length s.rows.mailboxes + boxes_in e) (s.groups + groups_in e) (length s.rows.chars + characters_in e)
  pushed_within e =
      pushed_keeps s.laid e
      ∙ ap (λ n. keeps (length s.rows.mailboxes + boxes_in e) (n + groups_in e) (length s.rows.chars + characters_in e)) (sym s.counted)

  pub loose_within : (m : Mailbox) → keeps (length s.rows.mailboxes + 1) s.groups (length s.rows.chars + mailbox_length m) ≡ within (stored s ++ loose m ∷ [])
  loose_within m =
      ap (λ n. keeps (length s.rows.mailboxes + 1) n (length s.rows.chars + mailbox_length m)) (sym (add-zero s.groups)) ∙ sym (pushed_within (loose m))

  pub group_within : (n : List ℕ) → keeps (length s.rows.mailboxes) (s.groups + 1) (length s.rows.chars + length n) ≡ within (stored s ++ group n [] ∷ [])
  group_within n =
      (λ i. keeps (sym (add-zero (length s.rows.mailboxes)) i) (s.groups + 1) (length s.rows.chars + sym (add-zero (length n)) i))
      ∙ sym (pushed_within (group n []))

  -- what the records tell of the entry i
  module _ {rs : List EntryRecord} (same : rs ≡ s.entries) (i : ℕ) where
    record_is : slice_get rs i ≡ option_map entry_record (slice_get (stored s) i)
    record_is = ap (λ l. slice_get l i) (same ∙ s.laid.0) ∙ slice_get-map entry_record (stored s) i

    pub told_none : None ≡ group_of (slice_get rs i) → has_group (stored s) i ≡ false
    told_none p = no_group (slice_get (stored s) i) (p ∙ ap group_of record_is)

    pub told_group : (n k : ℕ) → Some (n, k) ≡ group_of (slice_get rs i) → GroupThere (slice_get (stored s) i) n k
    told_group n k p = a_group (slice_get (stored s) i) n k (p ∙ ap group_of record_is)

    pub told_record : (r : EntryRecord) → slice_get rs i ≡ Some r → option_map entry_record (slice_get (stored s) i) ≡ Some r
    told_record r p = sym record_is ∙ p

  module _ (i : ℕ) {n k : ℕ} (g : GroupThere (slice_get (stored s) i) n k) where
    pub group_inside : i < length (stored s)
    group_inside = slice_get_within (stored s) i (group g.title g.box_row) g.stands

    pub members_few : k ≤ length s.rows.mailboxes
    members_few =
        let e : Entry = group g.title g.box_row in
        omega (arith, g.many, ap mailboxes (nth_front (stored s) i e g.stands), sum_by_push boxes_in (take i (stored s)) e, boxes_fit s.laid (i + 1))

    pub joined_within : (x : Mailbox) → keeps (length s.rows.mailboxes + 1) s.groups (length s.rows.chars + mailbox_length x) ≡ (has_group (stored s) i && within (joined_at (stored s) i x))
    joined_within x =
        sym (
        (λ j. some_group (g.stands j) && within (joined_at (stored s) i x))
        ∙ joined_keeps s.laid i g x
        ∙ ap (λ n. keeps (length s.rows.mailboxes + 1) n (length s.rows.chars + mailbox_length x)) (sym s.counted)
        )
