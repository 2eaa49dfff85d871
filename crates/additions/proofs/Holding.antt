-- An addend holds at most 2,000 characters of each, whatever was taken: for a list to know that sums of these fit. Assumes nothing.
use Rattle.std.proofs.Common.{ℕ, ◌≤◌, Bool, true, false, List, length, arith}
use Rattle.addresses.specs.Mailboxes.{name_length}
use Rattle.additions.specs.declared.addend.Addend.{Addend}
use Rattle.additions.specs.Held.{name_if, held_name, held_addr, held_group}

pub held_addr_few : (h : Addend) → length (held_addr h) ≤ 2000
held_addr_few h = h.few_addr

pub held_group_few : (h : Addend) → length (held_group h) ≤ 2000
held_group_few h = h.few_name

pub held_name_few : (h : Addend) → name_length (held_name h) ≤ 2000
held_name_few h = by h.named (held_group h) (held_group_few h)
  where
    by : (b : Bool) (n : List ℕ) → length n ≤ 2000 → name_length (name_if b n) ≤ 2000
    by true n few = few
    by false n few = omega arith
