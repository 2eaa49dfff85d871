use Rattle.std.proofs.Common.{◌≡◌, ◌-◌, ◌≤◌, ◌∷◌, ◌++◌, map, length, take, drop, sym, ap, ◌∙◌, arith, length-append, length-drop}
use Rattle.std.specs.List.{flat_map}
use Rattle.std.proofs.lemmas.List.{take_rest, drop_at}
use Rattle.addresses.specs.Looks.{mailbox_seen}
use Rattle.addresses.specs.Mailboxes.{mailbox_length}
use Rattle.store.specs.Layout.{mailbox_row, all_boxes, row, mailbox_record, record_size, mailbox_in}
use Rattle.store.proofs.Laying.{size_is, length_mailbox_row, mailbox_in_is}
use Rattle.store.proofs.Walking.{Taken, taken, reopened_laid, reopened_ahead}
use Rattle.store.proofs.store.walk.Walk.take_member.Goals as goal
use Rattle.store.proofs.store.walk.Walk.take_member.Goals.{In_ok-lengths, After-size}

module _ (c : In_ok-lengths) where
  abbrev next : Taken c.args.self.now.members c.args.self.now.entries.now c.args.self.now.mailboxes.now c.args.self.now.chars.now
  next = taken c.args.self.now.laid c.requires

  first_is : c.in_ok-lengths.lengths.now ≡ mailbox_record next.one
  first_is = let is = c.in_ok-lengths.ensures.cases.0 in let same = next.box_records in cc

  others_are : c.in_ok-lengths.others.now ≡ map mailbox_record (next.still ++ all_boxes next.behind)
  others_are = let is = c.in_ok-lengths.ensures.cases.0 in let same = next.box_records in cc

  wide : record_size c.in_ok-lengths.lengths.now ≡ mailbox_length next.one
  wide = ap record_size first_is ∙ size_is next.one

  fit : mailbox_length next.one ≤ length c.args.self.now.chars.now
  fit = omega (arith, ap length next.chars, length-append (mailbox_row next.one) (flat_map mailbox_row next.still ++ row next.behind), length_mailbox_row next.one)

pub size-requires : goal.size-requires
size-requires c =
    let b = (goal.at.size-requires c).In_ok-lengths in
    omega (arith, wide b, fit b, c.args.self.now.small)

-- what is ahead behind it
module _ (c : After-size) where
  abbrev got : Taken c.args.self.now.members c.args.self.now.entries.now c.args.self.now.mailboxes.now c.args.self.now.chars.now
  got = next (goal.at.After-size c).In_ok-lengths

  size_is_length : c.size.result ≡ mailbox_length got.one
  size_is_length = c.size.ensures ∙ wide (goal.at.After-size c).In_ok-lengths

  chars_left : take (length c.args.self.now.chars.now - c.size.result) (drop c.size.result c.args.self.now.chars.now) ≡ flat_map mailbox_row got.still ++ row got.behind
  chars_left =
      take_rest c.args.self.now.chars.now c.size.result
      ∙ ap (drop c.size.result) got.chars
      ∙ drop_at (mailbox_row got.one) (flat_map mailbox_row got.still ++ row got.behind) _ (length_mailbox_row got.one ∙ sym size_is_length)

  fewer : length got.still ≡ c.args.self.now.members - 1
  fewer = omega (arith, got.many)

pub offset_bounds-all-size : goal.offset_bounds-all-size
offset_bounds-all-size c = omega (arith, size_is_length c, fit (goal.at.offset_bounds-all-size c).In_ok-lengths, c.args.self.now.small)

pub slice_bounds-self-count : goal.slice_bounds-self-count
slice_bounds-self-count c = omega (arith, size_is_length c, fit (goal.at.slice_bounds-self-count c).In_ok-lengths)

pub slice_bounds-self-start : goal.slice_bounds-self-start
slice_bounds-self-start c = omega (arith, size_is_length c, fit (goal.at.slice_bounds-self-start c).In_ok-lengths)

pub invariant_of-self : goal.invariant_of-self
invariant_of-self c =
    let b = (goal.at.invariant_of-self c).After-size in
    let g = got b in
    let chars = c.args.self.now.chars.now in
    record {
      laid = reopened_laid g.still g.behind g.records (others_are (goal.at.invariant_of-self c).In_ok-lengths) (chars_left b) (fewer b);
      small = omega (arith, ap length (take_rest chars c.size.result), length-drop c.size.result chars, c.args.self.now.small);
    }

pub mailbox_part-requires : goal.mailbox_part-requires
mailbox_part-requires c =
    let b = (goal.at.mailbox_part-requires c).In_ok-lengths in
    omega (arith, wide b, fit b)

pub returns : goal.returns
returns c =
    let b = (goal.at.returns c).After-size in
    let d = (goal.at.returns c).In_ok-lengths in
    let g = got b in
    let shown = c.mailbox_part.ensures ∙ (λ i. mailbox_in (first_is d i) (g.chars i)) ∙ mailbox_in_is g.one (flat_map mailbox_row g.still ++ row g.behind) in
    g.shows ∙ (λ i. mailbox_seen (sym shown i) ∷ sym (reopened_ahead g.still g.behind g.records (others_are d) (chars_left b) (fewer b)) i)
