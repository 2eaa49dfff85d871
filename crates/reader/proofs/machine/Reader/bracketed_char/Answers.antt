use Rattle.std.proofs.Common.{sym, ◌∙◌}
use Rattle.addresses.specs.Mailboxes.{mailbox}
use Rattle.addresses.specs.Limits.{within}
use Rattle.addresses.specs.Steps.{whole, finished, holds_at}
use Rattle.reader.specs.declared.state.State.TheVariants.{AfterBracketedAddr}
use Rattle.reader.specs.Readers.{view}
use Rattle.reader.specs.Views.{display_name, state_to, list_to, standing}
use Rattle.reader.proofs.Refusals.{admits}
use Rattle.reader.proofs.machine.Reader.bracketed_char.Goals as goal

pub returns-in-Some-eq62 : goal.returns-in-Some-eq62
returns-in-Some-eq62 c =
    let v = view c.args.self.now in
    let m = mailbox (display_name c.args.named v) v.addr in
    let l = finished m v.list in
    rw (sym (c.in-Some-eq62.ensures.value.1) ∙ c.in-Some-eq62.field-0-test)
    (admits standing (holds_at m) (within (whole l)) (state_to AfterBracketedAddr (list_to l v)) (view c.finish.new.self) c.finish.result c.finish.ensures)
