use Rattle.std.proofs.Common.{◌≡◌, ◌+◌, ◌-◌, ◌<◌, ◌≤◌, length, get_or, take, drop, Some, None, sym, refl, ap, ◌∙◌, arith}
use Rattle.std.specs.Option.{option_map}
use Rattle.std.specs.List.{slice_get}
use Rattle.std.proofs.lemmas.Option.{slice_get_read}
use Rattle.addresses.specs.Mailboxes.{Mailbox, loose, mailboxes, characters}
use Rattle.addresses.specs.Looks.{seen_group, mailbox_seen, entry_seen}
use Rattle.store.specs.Layout.{mailbox_record, entry_record, group_of, record_size, mailbox_in}
use Rattle.store.specs.Stored.{stored}
use Rattle.store.specs.declared.records.MailboxRecord.{MailboxRecord}
use Rattle.store.proofs.Laying.{size_is}
use Rattle.store.proofs.Standing.{a_loose, GroupThere, a_group}
use Rattle.store.proofs.Entries.{loose_record, loose_inside, loose_chars, loose_is, title_is, title_inside}
use Rattle.store.proofs.Stores.{told_record}
use Rattle.store.proofs.store.Store.look_entry.Goals as goal
use Rattle.store.proofs.store.Store.look_entry.Goals.{After-place-at, In-Loose, In-Group, After-as_slice-in-Loose}

-- what an element past the end is read as
abbrev none : MailboxRecord
none = record { name = None; addr = 0 }

module _ (c : After-place-at) where
  told : option_map entry_record (slice_get (stored c.args.self.now) c.args.entry) ≡ Some c.in_ok-record.field-0.now
  told = told_record c.args.self.now c.as_slice.ensures.value c.args.entry _ (slice_get_read _ _ _ _ refl c.in_ok-record.ensures.lookup.3.0 c.in_ok-record.ensures.lookup.1)

  boxes_at : c.place-at.result.mailboxes ≡ mailboxes (take c.args.entry (stored c.args.self.now))
  boxes_at = ap (λ p. p.mailboxes) c.place-at.ensures

  chars_at : c.place-at.result.chars ≡ characters (take c.args.entry (stored c.args.self.now))
  chars_at = ap (λ p. p.chars) c.place-at.ensures

-- ── a loose mailbox ──

it : (c : In-Loose) → (m : Mailbox) × (slice_get (stored c.args.self.now) c.args.entry ≡ Some (loose m))
it c = a_loose (slice_get (stored c.args.self.now) c.args.entry) (told (goal.at.In-Loose c).After-place-at ∙ ap (λ r. Some r) c.in-Loose.is)

module _ (c : After-as_slice-in-Loose) where
  abbrev b : After-place-at
  b = (goal.at.After-as_slice-in-Loose c).After-place-at

  abbrev one : (m : Mailbox) × (slice_get (stored c.args.self.now) c.args.entry ≡ Some (loose m))
  one = it (goal.at.After-as_slice-in-Loose c).In-Loose

  record_inside : c.place-at.result.mailboxes < length c.args.self.now.rows.mailboxes
  record_inside = loose_inside c.args.self.now.laid c.args.entry one.0 one.1 _ _ (boxes_at b) (chars_at b)

  record_is : get_or c.as_slice-in-Loose.result.now c.place-at.result.mailboxes none ≡ mailbox_record one.0
  record_is =
      ap (λ l. get_or l c.place-at.result.mailboxes none) c.as_slice-in-Loose.ensures.value
      ∙ loose_record c.args.self.now.laid c.args.entry one.0 one.1 _ _ (boxes_at b) (chars_at b) none

pub offset_bounds-as_slice-at : goal.offset_bounds-as_slice-at
offset_bounds-as_slice-at c = omega (arith, record_inside c, c.args.self.now.small.0)

pub bounds-as_slice-at : goal.bounds-as_slice-at
bounds-as_slice-at c = omega (arith, record_inside c, ap length c.as_slice-in-Loose.ensures.value)

pub mailbox_part-requires : goal.mailbox_part-requires
mailbox_part-requires c =
    let d = (goal.at.mailbox_part-requires c).After-as_slice-in-Loose in
    omega (
      arith,
      ap record_size (record_is d),
      size_is (one d).0,
      loose_chars c.args.self.now.laid c.args.entry (one d).0 (one d).1 _ _ (boxes_at (b d)) (chars_at (b d)),
      ap length c.as_slice-all.ensures.value,
    )

pub returns-in-Loose : goal.returns-in-Loose
returns-in-Loose c =
    let d = (goal.at.returns-in-Loose c).After-as_slice-in-Loose in
    let lengths = get_or c.as_slice-in-Loose.result.now c.place-at.result.mailboxes none in
    ap (λ m. Some (mailbox_seen m)) (
    c.mailbox_part.ensures
    ∙ ap (λ l. mailbox_in lengths (drop c.place-at.result.chars l)) c.as_slice-all.ensures.value
    ∙ loose_is c.args.self.now.laid c.args.entry (one d).0 (one d).1 _ _ (boxes_at (b d)) (chars_at (b d)) lengths (record_is d)
    )
    ∙ sym (ap (option_map entry_seen) (one d).1)

-- ── a group ──

module _ (c : In-Group) where
  those : GroupThere (slice_get (stored c.args.self.now) c.args.entry) c.in-Group.name c.in-Group.members
  those = a_group (slice_get (stored c.args.self.now) c.args.entry) _ _ (sym (ap group_of (told (goal.at.In-Group c).After-place-at ∙ ap (λ r. Some r) c.in-Group.is)))

  fit : c.place-at.result.chars + c.in-Group.name ≤ length c.args.self.now.rows.chars
  fit =
      omega (
        arith,
        title_inside c.args.self.now.laid c.args.entry those.title those.box_row those.stands _ (chars_at (goal.at.In-Group c).After-place-at),
        those.long,
      )

pub overflow_add-result : goal.overflow_add-result
overflow_add-result c = omega (arith, fit c, c.args.self.now.small.2)

pub offset_bounds-all-at : goal.offset_bounds-all-at
offset_bounds-all-at c = omega (arith, fit c, c.args.self.now.small.2)

pub slice_bounds-result-end : goal.slice_bounds-result-end
slice_bounds-result-end c = omega (arith, fit c, ap length c.as_slice-all.ensures.value)

pub returns-in-Group : goal.returns-in-Group
returns-in-Group c =
    let d = (goal.at.returns-in-Group c).After-place-at in
    let g = those (goal.at.returns-in-Group c).In-Group in
    let q = c.place-at.result.chars in
    let n : q + c.in-Group.name - q ≡ c.in-Group.name = omega arith in
    let shown = (λ i. take (n i) (drop q (c.as_slice-all.ensures.value i))) ∙ title_is c.args.self.now.laid c.args.entry g.title g.box_row g.stands q (chars_at d) c.in-Group.name g.long in
    (λ i. Some (seen_group (shown i) (sym g.many i))) ∙ sym (ap (option_map entry_seen) g.stands)
