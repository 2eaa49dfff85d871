use Rattle.std.proofs.Common.{sum_by, ap, arith}
use Rattle.store.specs.Layout.{box_count}
use Rattle.store.proofs.Held.{mailboxes_held}
use Rattle.store.proofs.Places.{boxes_all}
use Rattle.store.proofs.store.Store.count_mailboxes.Goals as goal

pub count-requires : goal.count-requires
count-requires c =
    let s = c.args.self.now in
    omega (arith, ap (sum_by box_count) c.as_slice.ensures.value, boxes_all s.laid, mailboxes_held s.laid, s.small.0)
