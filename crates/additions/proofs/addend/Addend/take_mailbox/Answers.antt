use Rattle.std.proofs.Common.{◌≡◌, ℕ, true, List, Ok, Option, Result, sym, ap, ◌∙◌, rules}
use Rattle.std.specs.Option.{option_map}
use Rattle.std.specs.Str.{chars}
use Rattle.marks.specs.declared.fault.Fault.{Fault}
use Rattle.addresses.specs.Mailboxes.{mailbox}
use Rattle.addresses.specs.Limits.{short}
use Rattle.addresses.specs.Refusals.{◌>>=◌}
use Rattle.addresses.specs.Additions.{name_of, text_of}
use Rattle.additions.specs.Taking.{passed, own_checks, leaving}
use Rattle.additions.specs.Steps.{short_name, last_checks}
use Rattle.additions.specs.Held.{held_name}
use Rattle.additions.proofs.addend.Addend.take_mailbox.Goals as goal

-- r is the answer of the last checks, to which only a short name x and a short address y come
judged : {U : Type 0} (r : Result U Fault) (n : Result (Option (List ℕ)) Fault) (a : Result (List ℕ) Fault) (x : Option (List ℕ)) (y : List ℕ)
    → Ok x ≡ n → Ok y ≡ a → true ≡ short_name x → true ≡ short y → leaving r (mailbox x y) ≡ passed (last_checks (mailbox x y)) (mailbox x y)
    → leaving r (mailbox x y) ≡ ((n >>= λ u. a >>= λ v. Ok (mailbox u v)) >>= λ m. passed (own_checks m) m)
judged r n a x y name addr few short_addr last = rw (← name, ← addr, ← few, ← short_addr) last

pub returns : goal.returns
returns c =
    let name : held_name c.take_name.new.self ≡ option_map (λ s. chars s.now) c.in_ok-name.name = search rules in
    let addr : c.fill.new.row ≡ chars c.in_ok-addr.addr.now = search rules in
    judged c.judge.result (name_of (option_map (λ x. x.now) c.args.mailbox.name)) (text_of c.args.mailbox.addr.now) (held_name c.take_name.new.self) c.fill.new.row
    (ap Ok name ∙ c.in_ok-name.ensures) (ap Ok addr ∙ c.in_ok-addr.ensures) (c.in_ok-map_err.ensures.variant ∙ c.take_name.ensures.room ∙ sym (ap short_name name)) (c.in_ok-map_err-2.ensures.variant ∙ c.fill.ensures.room ∙ sym (ap short addr)) c.judge.ensures
