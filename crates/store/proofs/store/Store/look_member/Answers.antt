use Rattle.std.proofs.Common.{◌≡◌, ◌<◌, length, get_or, drop, Some, None, sym, ap, ◌∙◌, arith}
use Rattle.std.specs.Option.{option_map}
use Rattle.std.specs.List.{slice_get}
use Rattle.addresses.specs.Looks.{mailbox_seen}
use Rattle.addresses.specs.Mailboxes.{Mailbox}
use Rattle.store.specs.Edits.{member_at}
use Rattle.store.specs.Layout.{mailbox_record, record_size, mailbox_in}
use Rattle.store.specs.Places.{extent, upto}
use Rattle.store.specs.Stored.{stored}
use Rattle.store.specs.declared.records.MailboxRecord.{MailboxRecord}
use Rattle.store.proofs.Laying.{size_is}
use Rattle.store.proofs.Standing.{MemberThere, a_member}
use Rattle.store.proofs.Members.{told_place, member_record, member_inside, member_chars, member_is}
use Rattle.store.proofs.store.Store.look_member.Goals as goal
use Rattle.store.proofs.store.Store.look_member.Goals.{In_ok-at, After-as_slice}

-- what an element past the end is read as
abbrev none : MailboxRecord
none = record { name = None; addr = 0 }

-- the member, and where it lies
module _ (c : In_ok-at) where
  told : (m : Mailbox) × (member_at (stored c.args.self.now) c.args.entry c.args.member ≡ Some m) × (c.in_ok-at.at ≡ extent (upto (stored c.args.self.now) c.args.entry c.args.member))
  told = told_place _ _ _ c.in_ok-at.ensures

  here : MemberThere (slice_get (stored c.args.self.now) c.args.entry) c.args.member told.0
  here = a_member (slice_get (stored c.args.self.now) c.args.entry) c.args.member told.0 told.1

module _ (c : After-as_slice) where
  abbrev b : In_ok-at
  b = (goal.at.After-as_slice c).In_ok-at

  record_inside : c.in_ok-at.at.mailboxes < length c.args.self.now.rows.mailboxes
  record_inside = omega (arith, ap (λ p. p.mailboxes) (told b).2, member_inside c.args.self.now.laid c.args.entry c.args.member (here b))

  record_is : get_or c.as_slice.result.now c.in_ok-at.at.mailboxes none ≡ mailbox_record (told b).0
  record_is =
      (λ i. get_or (c.as_slice.ensures.value i) ((told b).2 i).mailboxes none)
      ∙ member_record c.args.self.now.laid c.args.entry c.args.member (here b) none

pub offset_bounds-as_slice-at : goal.offset_bounds-as_slice-at
offset_bounds-as_slice-at c = omega (arith, record_inside c, c.args.self.now.small.0)

pub bounds-as_slice-at : goal.bounds-as_slice-at
bounds-as_slice-at c = omega (arith, record_inside c, ap length c.as_slice.ensures.value)

pub mailbox_part-requires : goal.mailbox_part-requires
mailbox_part-requires c =
    let d = (goal.at.mailbox_part-requires c).After-as_slice in
    omega (
      arith,
      ap record_size (record_is d),
      size_is (told (b d)).0,
      ap (λ p. p.chars) (told (b d)).2,
      member_chars c.args.self.now.laid c.args.entry c.args.member (here (b d)),
      ap length c.as_slice-all.ensures.value,
    )

pub returns : goal.returns
returns c =
    let d = (goal.at.returns c).After-as_slice in
    let lengths = get_or c.as_slice.result.now c.in_ok-at.at.mailboxes none in
    ap (λ m. Some (mailbox_seen m)) (
    c.mailbox_part.ensures
    ∙ (λ i. mailbox_in lengths (drop ((told (b d)).2 i).chars (c.as_slice-all.ensures.value i)))
    ∙ member_is c.args.self.now.laid c.args.entry c.args.member (here (b d)) lengths (record_is d)
    )
    ∙ sym (ap (option_map mailbox_seen) (told (b d)).1)
