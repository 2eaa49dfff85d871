use Rattle.std.proofs.Common.{◌≡◌, ◌+◌, ◌≤◌, length, take, sum_by, sym, ap, ◌∙◌, arith}
use Rattle.std.proofs.lemmas.List.{length-take-le}
use Rattle.addresses.specs.Mailboxes.{mailboxes, characters}
use Rattle.store.specs.Layout.{record_size, title_size, box_count}
use Rattle.store.specs.Stored.{stored}
use Rattle.store.proofs.Places.{boxes_before, chars_before, boxes_fit, chars_fit}
use Rattle.store.proofs.store.Store.place.Goals as goal
use Rattle.store.proofs.store.Store.place.Goals.{After-as_slice, After-as_slice-2}

counted : (c : After-as_slice) → sum_by box_count (take c.args.i c.as_slice.result.now) ≡ mailboxes (take c.args.i (stored c.args.self.now))
counted c = ap (λ l. sum_by box_count (take c.args.i l)) c.as_slice.ensures.value ∙ boxes_before c.args.self.now.laid c.args.i

module _ (c : After-as_slice-2) where
  boxes : c.count-mailboxes.result ≡ mailboxes (take c.args.i (stored c.args.self.now))
  boxes = c.count-mailboxes.ensures ∙ counted (goal.at.After-as_slice-2 c).After-as_slice

  summed : sum_by title_size (take c.args.i c.as_slice.result.now) + sum_by record_size (take c.count-mailboxes.result c.as_slice-2.result.now) ≡ characters (take c.args.i (stored c.args.self.now))
  summed =
      (λ j. sum_by title_size (take c.args.i (c.as_slice.ensures.value j)) + sum_by record_size (take (boxes j) (c.as_slice-2.ensures.value j)))
      ∙ chars_before c.args.self.now.laid c.args.i

  few : characters (take c.args.i (stored c.args.self.now)) ≤ 8192
  few = let s = c.args.self.now in omega (arith, chars_fit s.laid c.args.i, s.small.2)

pub count-mailboxes-requires : goal.count-mailboxes-requires
count-mailboxes-requires c =
    let s = c.args.self.now in
    omega (arith, counted (goal.at.count-mailboxes-requires c).After-as_slice, boxes_fit s.laid c.args.i, s.small.0)

pub slice_bounds-records-end : goal.slice_bounds-records-end
slice_bounds-records-end c =
    sym (length-take-le c.count-mailboxes.result c.as_slice-2.result.now (omega (arith, boxes c, boxes_fit c.args.self.now.laid c.args.i, ap length c.as_slice-2.ensures.value)))

pub titles-requires : goal.titles-requires
titles-requires c = omega (arith, summed c, few c)

pub width-requires : goal.width-requires
width-requires c = let b = (goal.at.width-requires c).After-as_slice-2 in omega (arith, summed b, few b)

pub overflow_add-result : goal.overflow_add-result
overflow_add-result c = let b = (goal.at.overflow_add-result c).After-as_slice-2 in omega (arith, c.titles.ensures, c.width.ensures, summed b, few b)

pub returns : goal.returns
returns c =
    let b = (goal.at.returns c).After-as_slice-2 in
    λ j. record { mailboxes = boxes b j; chars = ((λ k. c.titles.ensures k + c.width.ensures k) ∙ summed b) j }
