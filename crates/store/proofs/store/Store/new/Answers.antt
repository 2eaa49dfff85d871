use Rattle.std.proofs.Common.{[], refl}
use Rattle.addresses.specs.Limits.{within}
use Rattle.store.proofs.Held.{kept}
use Rattle.store.proofs.store.Store.new.Goals as goal

pub invariant_of-result : goal.invariant_of-result
unfolding within
invariant_of-result c = kept {l = []} record { records = c.in_ok-new.ensures; box_records = c.in_ok-new-2.ensures; chars = c.in_ok-new-3.ensures } refl refl
