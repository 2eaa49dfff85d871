use Rattle.std.proofs.Common.{sym, subst}
use Rattle.addresses.specs.Additions.{added}
use Rattle.addresses.specs.Outcomes.{ComesOut}
use Rattle.mailboxes.specs.Listed.{listed}
use Rattle.life.specs.declared.event.Addition.{Addition}
use Rattle.life.specs.Asked.{addition_asked}
use Rattle.life.proofs.call.add.Goals as goal

pub returns-in-Member : goal.returns-in-Member
returns-in-Member c =
    let l = listed c.args.list.now in
    let P : Addition → Type 0 = λ a. ComesOut l (added l (addition_asked a)) c.add_member.result (listed c.add_member.new.self) in
    subst P (sym c.in-Member.is) c.add_member.ensures
