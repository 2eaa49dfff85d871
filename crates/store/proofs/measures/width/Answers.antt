use Rattle.std.proofs.Common.{refl, ap, rules, arith}
use Rattle.std.proofs.lemmas.Iterator.{YieldsList-from_slice}
use Rattle.std.proofs.lemmas.Iterator.Adapters.{serves_from_places}
use Rattle.std.proofs.lemmas.List.Sums.{get_or-le-sum_by}
use Rattle.store.specs.Layout.{record_size}
use Rattle.store.proofs.measures.width.Goals as goal

-- each record is as small as all together
pub sum-requires-clause-can : goal.sum-requires-clause-can
sum-requires-clause-can c =
    let xs = c.args.mailboxes.now in (
      tt,
      serves_from_places
          (YieldsList-from_slice xs (search rules))
          (λ _ _ _. refl)
          (λ x k lt is _ _ _ _ _ _. omega (arith, get_or-le-sum_by record_size xs k x.now lt, ap record_size is, c.requires)),
    )
