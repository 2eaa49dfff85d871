use Rattle.std.proofs.Common.{[], refl}
use Rattle.addresses.specs.Limits.{within}
use Rattle.store.proofs.Held.{kept}
use Rattle.store.proofs.Laying.{Stands, settled}
use Rattle.store.proofs.store.Store.clear.Goals as goal
use Rattle.store.proofs.store.Store.clear.Goals.{After-clear-3}

emptied : (c : After-clear-3) → Stands [] c.clear.new.self c.clear-2.new.self c.clear-3.new.self
emptied c = record { records = c.clear.ensures; box_records = c.clear-2.ensures; chars = c.clear-3.ensures }

pub invariant_of-self : goal.invariant_of-self
unfolding within
invariant_of-self c = kept (emptied c) refl refl

pub returns : goal.returns
returns c = record { empty = settled (emptied (goal.at.returns c).After-clear-3) }
