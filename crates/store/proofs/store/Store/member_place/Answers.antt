use Rattle.std.proofs.Common.{◌≡◌, ◌+◌, ◌-◌, ◌<◌, ◌≤◌, List, [], get_or, length, take, drop, Some, None, sum_by, sym, ap, ◌∙◌, arith}
use Rattle.std.specs.Option.{option_map}
use Rattle.std.specs.List.{slice_get}
use Rattle.addresses.specs.Mailboxes.{Mailbox, mailbox, mailbox_length, mailboxes, characters}
use Rattle.store.specs.Edits.{some_member}
use Rattle.store.specs.Layout.{record_size}
use Rattle.store.specs.Places.{extent, upto}
use Rattle.store.specs.Stored.{stored}
use Rattle.store.proofs.Laying.{sizes_are}
use Rattle.store.proofs.Standing.{GroupThere, MemberThere, member_within}
use Rattle.store.proofs.Members.{boxes_upto, chars_upto, front_long, members_before, member_inside, member_chars}
use Rattle.store.proofs.Stores.{told_group}
use Rattle.store.proofs.store.Store.member_place.Goals as goal
use Rattle.store.proofs.store.Store.member_place.Goals.{In_ok-title, After-place-start, After-as_slice-2}

there : (c : In_ok-title) → GroupThere (slice_get (stored c.args.self.now) c.args.i) c.in_ok-title.title c.in_ok-title.members
there c = told_group c.args.self.now c.as_slice.ensures.value c.args.i _ _ c.in_ok-title.ensures

module _ (c : After-place-start) where
  abbrev group_there : GroupThere (slice_get (stored c.args.self.now) c.args.i) c.in_ok-title.title c.in_ok-title.members
  group_there = there (goal.at.After-place-start c).In_ok-title

  abbrev here : MemberThere (slice_get (stored c.args.self.now) c.args.i) c.args.j (get_or group_there.box_row c.args.j (mailbox None []))
  here = member_within group_there c.args.j c.if-j-members.false

  abbrev front : List Mailbox
  front = take c.args.j here.box_row

  boxes_before : c.place-start.result.mailboxes ≡ mailboxes (take c.args.i (stored c.args.self.now))
  boxes_before = ap (λ p. p.mailboxes) c.place-start.ensures

  boxes_is : c.place-start.result.mailboxes + c.args.j ≡ mailboxes (upto (stored c.args.self.now) c.args.i c.args.j)
  boxes_is =
      let h = c.args.self.now.laid in
      omega (arith, boxes_before, boxes_upto h c.args.i c.args.j here, front_long h c.args.i c.args.j here)

  row_is : c.place-start.result.chars + c.in_ok-title.title + sum_by mailbox_length front ≡ characters (upto (stored c.args.self.now) c.args.i c.args.j)
  row_is = omega (arith, ap (λ p. p.chars) c.place-start.ensures, chars_upto c.args.self.now.laid c.args.i c.args.j here, group_there.long)

  boxes_in : mailboxes (upto (stored c.args.self.now) c.args.i c.args.j) < length c.args.self.now.rows.mailboxes
  boxes_in = member_inside c.args.self.now.laid c.args.i c.args.j here

  chars_in : characters (upto (stored c.args.self.now) c.args.i c.args.j) ≤ 8192
  chars_in = let s = c.args.self.now in omega (arith, member_chars s.laid c.args.i c.args.j here, s.small.2)

own_sum : (c : After-as_slice-2) → sum_by record_size (take (c.place-start.result.mailboxes + c.args.j - c.place-start.result.mailboxes) (drop c.place-start.result.mailboxes c.as_slice-2.result.now)) ≡ sum_by mailbox_length (front (goal.at.After-as_slice-2 c).After-place-start)
own_sum c =
    let b = (goal.at.After-as_slice-2 c).After-place-start in
    let n : c.place-start.result.mailboxes + c.args.j - c.place-start.result.mailboxes ≡ c.args.j = omega arith in
    ap (sum_by record_size) (
    (λ k. take (n k) (drop c.place-start.result.mailboxes (c.as_slice-2.ensures.value k)))
    ∙ members_before c.args.self.now.laid c.args.i c.args.j (here b) c.place-start.result.mailboxes (boxes_before b)
    )
    ∙ sizes_are (front b)

pub overflow_add-mailboxes : goal.overflow_add-mailboxes
overflow_add-mailboxes c =
    let b = (goal.at.overflow_add-mailboxes c).After-place-start in
    omega (arith, boxes_is b, boxes_in b, c.args.self.now.small.0)

pub offset_bounds-as_slice-start : goal.offset_bounds-as_slice-start
offset_bounds-as_slice-start c =
    let b = (goal.at.offset_bounds-as_slice-start c).After-place-start in
    omega (arith, boxes_is b, boxes_in b, c.args.self.now.small.0)

pub slice_bounds-before-end : goal.slice_bounds-before-end
slice_bounds-before-end c =
    let b = (goal.at.slice_bounds-before-end c).After-place-start in
    omega (arith, boxes_is b, boxes_in b, ap length c.as_slice-2.ensures.value)

pub overflow_add-result : goal.overflow_add-result
overflow_add-result c = let b = (goal.at.overflow_add-result c).After-place-start in omega (arith, row_is b, chars_in b)

pub width-requires : goal.width-requires
width-requires c =
    let b = (goal.at.width-requires c).After-place-start in
    omega (arith, own_sum (goal.at.width-requires c).After-as_slice-2, row_is b, chars_in b)

pub overflow_add-result-2 : goal.overflow_add-result-2
overflow_add-result-2 c =
    let b = (goal.at.overflow_add-result-2 c).After-place-start in
    omega (arith, c.width.ensures, own_sum (goal.at.overflow_add-result-2 c).After-as_slice-2, row_is b, chars_in b)

pub returns : goal.returns
returns c =
    let s = c.args.self.now in
    let b = (goal.at.returns c).After-place-start in
    let own = c.width.ensures ∙ own_sum (goal.at.returns c).After-as_slice-2 in
    let wide = ap (λ k. c.place-start.result.chars + c.in_ok-title.title + k) own ∙ row_is b in
    (λ k. Some record { mailboxes = boxes_is b k; chars = wide k })
    ∙ sym (ap (λ o. option_map (λ _. extent (upto (stored s) c.args.i c.args.j)) (some_member o c.args.j)) (here b).stands ∙ ap (option_map (λ _. extent (upto (stored s) c.args.i c.args.j))) (here b).member)
