-- What an addend holds.
--     name_if b n      the name n if b says that there is one, else none
--     held_name h      the display name of its mailbox, or none
--     held_addr h      the address of its mailbox
--     held h           its mailbox
--     held_group h     the name of its group
-- Assumes nothing.
use Rattle.std.specs.Prelude.{ℕ, Bool, cond, List, Some, None, Option}
use Rattle.addresses.specs.Mailboxes.{Mailbox, mailbox}
use Rattle.additions.specs.declared.addend.Addend.{Addend}

abbrev pub name_if : Bool → List ℕ → Option (List ℕ)
name_if b n = cond b (Some n) None

abbrev pub held_name : Addend → Option (List ℕ)
held_name h = name_if h.named h.name

abbrev pub held_addr : Addend → List ℕ
held_addr h = h.addr

abbrev pub held : Addend → Mailbox
held h = mailbox (held_name h) (held_addr h)

abbrev pub held_group : Addend → List ℕ
held_group h = h.name
