use Rattle.std.proofs.Common.{◌≡◌, ◌+◌, ◌<◌, ◌≤◌, ◌++◌, length, get_or, set, take, drop, Some, None, sym, ap, ◌∙◌, add-one, arith}
use Rattle.std.specs.Option.{option_map}
use Rattle.std.specs.List.{remove, slice_get}
use Rattle.std.proofs.lemmas.Option.{slice_get-get_or, slice_get_within}
use Rattle.addresses.specs.Mailboxes.{Mailbox, mailbox_length, mailboxes, groups, characters}
use Rattle.store.specs.Edits.{member_at, parted_at}
use Rattle.store.specs.Layout.{entry_record, record_size, box_count, one_less}
use Rattle.store.specs.Places.{extent, upto}
use Rattle.store.specs.Stored.{stored}
use Rattle.store.specs.declared.records.EntryRecord.TheVariants.{Loose, Group}
use Rattle.store.specs.declared.records.MailboxRecord.{MailboxRecord}
use Rattle.store.proofs.Laying.{Stands, settled, laid, size_is}
use Rattle.store.proofs.Held.{entries_held, cut_short}
use Rattle.store.proofs.Standing.{MemberThere, a_member}
use Rattle.store.proofs.Members.{told_place, member_record, member_inside, member_chars}
use Rattle.store.proofs.Removing.{parted, parted_groups}
use Rattle.store.proofs.Stores.{told_record}
use Rattle.store.proofs.store.Store.remove_member.Goals as goal
use Rattle.store.proofs.store.Store.remove_member.Goals.{In-Some, After-as_slice, After-as_slice-2, After-replace}

-- what an element past the end is read as
abbrev none : MailboxRecord
none = record { name = None; addr = 0 }

-- the member, and where it lies
module _ (c : In-Some) where
  told : (m : Mailbox) × (member_at (stored c.args.self.now) c.args.entry c.args.member ≡ Some m) × (c.in-Some.at ≡ extent (upto (stored c.args.self.now) c.args.entry c.args.member))
  told = told_place _ _ _ c.in-Some.ensures

  here : MemberThere (slice_get (stored c.args.self.now) c.args.entry) c.args.member told.0
  here = a_member (slice_get (stored c.args.self.now) c.args.entry) c.args.member told.0 told.1

  entry_inside : c.args.entry < length c.args.self.now.entries
  entry_inside = omega (arith, slice_get_within (stored c.args.self.now) c.args.entry _ here.stands, entries_held c.args.self.now.laid)

  boxes_at : c.in-Some.at.mailboxes ≡ mailboxes (upto (stored c.args.self.now) c.args.entry c.args.member)
  boxes_at = ap (λ p. p.mailboxes) told.2

  chars_at : c.in-Some.at.chars ≡ characters (upto (stored c.args.self.now) c.args.entry c.args.member)
  chars_at = ap (λ p. p.chars) told.2

  record_inside : c.in-Some.at.mailboxes < length c.args.self.now.rows.mailboxes
  record_inside = omega (arith, boxes_at, member_inside c.args.self.now.laid c.args.entry c.args.member here)

  chars_inside : c.in-Some.at.chars + mailbox_length told.0 ≤ length c.args.self.now.rows.chars
  chars_inside = omega (arith, chars_at, member_chars c.args.self.now.laid c.args.entry c.args.member here)

module _ (c : After-as_slice) where
  abbrev b : In-Some
  b = (goal.at.After-as_slice c).In-Some

  width : record_size (get_or c.as_slice.result.now c.in-Some.at.mailboxes none) ≡ mailbox_length (told b).0
  width =
      (λ i. record_size (get_or (c.as_slice.ensures.value i) (boxes_at b i) none))
      ∙ ap record_size (member_record c.args.self.now.laid c.args.entry c.args.member (here b) none)
      ∙ size_is (told b).0

pub offset_bounds-as_slice-at : goal.offset_bounds-as_slice-at
offset_bounds-as_slice-at c = omega (arith, record_inside (b c), c.args.self.now.small.0)

pub bounds-as_slice-at : goal.bounds-as_slice-at
bounds-as_slice-at c = omega (arith, record_inside (b c), ap length c.as_slice.ensures.value)

pub size-size-requires : goal.size-size-requires
size-size-requires c =
    let d = (goal.at.size-size-requires c).After-as_slice in
    omega (arith, width d, chars_inside (b d), c.args.self.now.small.2)

pub overflow_add-end : goal.overflow_add-end
overflow_add-end c = omega (arith, record_inside (goal.at.overflow_add-end c).In-Some, c.args.self.now.small.0)

pub overflow_add-end-2 : goal.overflow_add-end-2
overflow_add-end-2 c =
    let d = (goal.at.overflow_add-end-2 c).After-as_slice in
    omega (arith, c.size-size.ensures, width d, chars_inside (b d), c.args.self.now.small.2)

pub offset_bounds-as_slice-entry : goal.offset_bounds-as_slice-entry
offset_bounds-as_slice-entry c = omega (arith, entry_inside (goal.at.offset_bounds-as_slice-entry c).In-Some, c.as_slice-2.ensures.at_most, ap length c.as_slice-2.ensures.value)

pub bounds-as_slice-entry : goal.bounds-as_slice-entry
bounds-as_slice-entry c = omega (arith, entry_inside (goal.at.bounds-as_slice-entry c).In-Some, ap length c.as_slice-2.ensures.value)

-- the group's record
module _ (c : After-as_slice-2) where
  abbrev d : In-Some
  d = (goal.at.After-as_slice-2 c).In-Some

  record_is : get_or c.as_slice-2.result.now c.args.entry Loose ≡ Group (length (here d).title) (length (here d).box_row)
  record_is =
      let inside : c.args.entry < length c.as_slice-2.result.now = omega (arith, entry_inside d, ap length c.as_slice-2.ensures.value) in
      let read = told_record c.args.self.now c.as_slice-2.ensures.value c.args.entry _ (slice_get-get_or c.as_slice-2.result.now c.args.entry Loose inside) in
      let stands = ap (option_map entry_record) (here d).stands in
      cc

pub one_less-group-requires : goal.one_less-group-requires
one_less-group-requires c =
    let e = (goal.at.one_less-group-requires c).After-as_slice-2 in
    omega (arith, ap box_count (record_is e), slice_get_within (here (d e)).box_row c.args.member _ (here (d e)).member)

module _ (c : After-replace) where
  abbrev at : In-Some
  at = (goal.at.After-replace c).In-Some

  rest_records : c.replace.new.self ≡ set c.args.self.now.entries c.args.entry (one_less (Group (length (here at).title) (length (here at).box_row)))
  rest_records = c.replace.ensures.after ∙ ap (set c.args.self.now.entries c.args.entry) (c.one_less-group.ensures ∙ ap one_less (record_is (goal.at.After-replace c).After-as_slice-2))

  rest_boxes : c.cut.new.self.mailboxes ≡ remove c.args.self.now.rows.mailboxes c.in-Some.at.mailboxes
  rest_boxes =
      let old = c.args.self.now.rows.mailboxes in
      let p = c.in-Some.at.mailboxes in
      c.cut.ensures.records ∙ ap (λ k. take p old ++ drop k old) (add-one p)

  end : c.in-Some.at.chars + c.size-size.result ≡ c.in-Some.at.chars + mailbox_length (told at).0
  end = ap (λ k. c.in-Some.at.chars + k) (c.size-size.ensures ∙ width (goal.at.After-replace c).After-as_slice)

  laid_out : Stands (parted_at (stored c.args.self.now) c.args.entry c.args.member) c.replace.new.self c.cut.new.self.mailboxes c.cut.new.self.chars
  laid_out = parted c.args.self.now.laid c.args.entry c.args.member (here at) (boxes_at at) (chars_at at) end rest_records rest_boxes c.cut.ensures.row

pub invariant_of-self : goal.invariant_of-self
invariant_of-self c =
    let s = c.args.self.now in
    record {
      laid = laid (laid_out c);
      counted = s.counted ∙ sym (ap groups (settled (laid_out c)) ∙ parted_groups s.laid c.args.entry c.args.member (here (at c)));
      small = (
        omega (arith, s.small.0, ap length c.cut.ensures.records, cut_short s.rows.mailboxes c.in-Some.at.mailboxes (c.in-Some.at.mailboxes + 1) (omega arith)),
        s.small.1,
        omega (arith, s.small.2, ap length c.cut.ensures.row, cut_short s.rows.chars c.in-Some.at.chars (c.in-Some.at.chars + c.size-size.result) (omega arith)),
      );
    }

pub returns-clause-after : goal.returns-clause-after
returns-clause-after c = settled (laid_out (goal.at.returns-clause-after c).After-replace)
