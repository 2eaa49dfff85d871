-- How many bytes a stored list takes: few enough for any sum of their numbers. Assumes nothing.
use Rattle.std.proofs.Common.{◌≤◌}
use Rattle.addresses.specs.Writing.{needed}
use Rattle.addresses.proofs.Within.{true_within}
use Rattle.addresses.proofs.WrittenSize.{bytes_written}
use Rattle.store.specs.Stored.{stored}
use Rattle.store.specs.declared.store.Store.{Store}
use Rattle.store.proofs.Stores.{stored_within}

pub few_bytes : (s : Store) → needed (stored s) ≤ 35008
few_bytes s = bytes_written (stored s) (true_within (stored s) (stored_within s))
